-- A subscription that was just made.
use Rattle.std.proofs.Common.{◌≡◌, ◌≢◌, ℕ, ◌+◌, ◌<◌, ◌≤◌, Bool, true, false, List, [], ◌∷◌, ◌++◌, length, Option, Some, None, Ok, Err, inr, refl, sym, ap, ◌∙◌, subst, arith, get_or-set_same, set-set, slice_set, IsSome, suc, zero, ◌==◌}
use Rattle.std.specs.Prelude.{IfNone, IfOk, IfSome, Result, unwrap_or}
use Rattle.std.proofs.lemmas.Bool.Decides.{nat_tests}
use Rattle.lq_value.specs.declared.refusal.Refusal.{Refusal}
use Rattle.lq_value.specs.declared.refusal.Refusal.TheVariants.{NoMemory}
use Rattle.lq_value.specs.Refusal.{first_refusal}
use Rattle.lq_predicate.specs.Query.{Query}
use Rattle.lq_volume.specs.State.{State}
use Rattle.lq_volume.specs.Book.{Book, state_of}
use Rattle.lq_volume.specs.Result.{result_of}
use Rattle.lq_board.specs.Known.{KnownSlot}
use Rattle.lq_board.specs.Book.{IsFullBook}
use Rattle.lq_board.specs.Slot.{slot_at, unused, gone_out, counted}
use Rattle.lq_board.specs.Token.{BoardName, KeeperToken, SeatToken, moment_of}
use Rattle.lq_update.specs.declared.open_options.Flags.{Flags}
use Rattle.lq_update.specs.Fold.{opened_at}
use Rattle.lq_volume.specs.declared.change.Change.{Change}
use Rattle.lq_desk_sub.specs.declared.watch.Watch.{Watch}
use Rattle.lq_desk_sub.specs.Held.{opened_with}
use Rattle.lq_desk_sub.specs.SlotSet.{has}
use Rattle.lq_desk_sub.specs.Watch.{IsWatched, slots_for}
use Rattle.lq_desk_world.specs.Events.{size_refusals, opening_refusals}
use Rattle.lq_server_slots.specs.declared.delivery.Opening.{Opening}
use Rattle.lq_server_slots.specs.declared.identity.Identity.{Identity}
use Rattle.lq_server_slots.specs.declared.identity.FirstClose.TheVariants.{Never}
use Rattle.lq_server_slots.specs.declared.identity.LastReport.TheVariants.{Live}
use Rattle.lq_server_slots.specs.declared.subscription.Subscription.{Subscription}
use Rattle.lq_server_slots.specs.Rule.{floor_of, query_of}
use Rattle.lq_server_slots.specs.Identity.{identity_of}
use Rattle.lq_server_slots.specs.Reading.{ReadingHold}
use Rattle.lq_server_slots.specs.Standing.{IsSeen, IsConsistentAt}
use Rattle.lq_server_slots.specs.Laws.{NewSubscriptionsStand}
use Rattle.lq_server_slots.specs.declared.slots.ServerSlots.{ServerSlots}
use Rattle.lq_server_slots.specs.declared.open.Opened.{Opened}
use Rattle.lq_server_slots.specs.Slots.{SlotStands, IsTakenSlot, slot_in, AreConsistent, SlotIsWatched, OnlyAt, SameButKnown, IsState}
use Rattle.lq_server_slots.specs.Opening.{IsNewSubscription, IsOpeningAnswer, size_refusal}
use Rattle.lq_server_slots.specs.Hold.{LockHold}
use Rattle.lq_server_slots.specs.Noted.{IsOpenedOver}
use Rattle.lq_desk_sub.specs.SlotTable.{first_free}
use Rattle.lq_server_slots.proofs.TableLemmas.{counted_here, only_set, slots_set}

-- a subscription that was just made, and the end that reads
pub begun_new : NewSubscriptionsStand → (s : Subscription) (r : ReadingHold) (book : Book)
    (q : Query) (flags : Flags) (port backlog at : ℕ) (g : Opening)
    → s.sub.held ≡ opened_with q flags at backlog
    → at ≡ length book.changes → s.places ≡ port → s.last_report.value ≡ Live at 0
    → s.first_close ≡ Never
    → s.input.places ≡ port → s.input.floor ≡ g → query_of g ≡ q → g.flags ≡ flags → g.opened ≡ at
    → floor_of g ≡ book → s.input.taken ≡ [] → s.input.ahead ≡ [] → IsFullBook book
    → r.port ≡ s.input → r.hand ≡ None → r.result ≡ opened_at at (result_of q (state_of book))
    → IsNewSubscription s r book q flags port backlog
begun_new stand s r book q flags port backlog at g held number places last_report first_close ports
    opening_at
    query flags_are opened floor taken ahead full end hand result =
    let stands : IsConsistentAt s book =
    rw (held, last_report, first_close, number)
    (stand q flags backlog s.input s.places book taken ahead (rw opening_at floor)
    (rw opening_at query) (rw opening_at flags_are) (rw (opening_at, ← number) opened)
    (ports ∙ sym places) full) in
    grind arith

-- a subscription that was just made is so for what it was made for
pub begun_own : (s : Subscription) (r : ReadingHold) (book : Book) (q : Query) (flags : Flags)
    (port backlog : ℕ) → IsNewSubscription s r book q flags port backlog
    → IsNewSubscription s r book s.sub.held.query s.sub.held.flags s.places s.sub.held.backlog
begun_own s r book q flags port backlog b = grind arith

-- what is watched at another slot is so on
watched_else : (v w : Watch) (i : ℕ)
    → ((c : Change) (j : ℕ) → j ≢ i → has (slots_for w c).word j ≡ has (slots_for v c).word j)
    → (j : ℕ) (x : Option Subscription) → j ≢ i → SlotIsWatched v j x → SlotIsWatched w j x
watched_else v w i others j None ne was = tt
watched_else v w i others j (Some x) ne was = λ c out. was c (sym (others c j ne) ∙ out)

-- a subscription takes a free slot, and is watched there
pub settled : (slots : ServerSlots) (one two : KeeperToken Identity) (i n : ℕ) (s : Subscription)
    (book : Book) → AreConsistent slots book → i < 64 → slot_in slots.subscriptions i ≡ None
    → one.slots ≡ counted slots.keeper.slots (i + 1) n
    → ((slot_at slots.keeper.slots (i + 1)).out ≡ false
    → n ≡ (slot_at slots.keeper.slots (i + 1)).asks)
    → two.slots ≡ gone_out one.slots (i + 1) (Some (identity_of s)) → s.asks ≡ n
    → IsConsistentAt s book → IsSeen s → s.sub.held.messages ≡ [] → s.sub.held.mark ≡ None
    → (w : Watch) → IsWatched w i s.sub.held.query s.sub.held.flags
    → ((c : Change) (j : ℕ) → j ≢ i
    → has (slots_for w c).word j ≡ has (slots_for slots.watch c).word j)
    → AreConsistent (record {
      keeper = two;
      subscriptions = slice_set slots.subscriptions i (Some s);
      watch = w;
      openings = slots.openings + 1;
    }) book
settled slots one two i n s book h within free counts idle gone asks stands seen none live w watched
    others =
    let known = slots.keeper.slots in
    let was : SlotStands None (slot_at known (i + 1)) book = rw free at (h.each i within) in
    let most = rw free at (h.asks i within) in
    let lt : i + 1 < length known = omega (arith, h.known) in
    let q : KnownSlot Identity = record { out = true; asks = n; name = Some (identity_of s) } in
    let set : two.slots ≡ slice_set known (i + 1) q =
    rw (gone, counts, counted_here known (i + 1) n lt, set-set) in
    let there : slot_at two.slots (i + 1) ≡ q =
    rw set (get_or-set_same known (i + 1) q unused lt) in
    let only : OnlyAt known two.slots (i + 1) = rw set (only_set known (i + 1) q) in
    let count = idle was in
    let fits : IsTakenSlot s (slot_at two.slots (i + 1)) book = grind arith in
    slots_set slots two w i (slots.openings + 1) (Some s) book h (omega arith) within only fits
    (omega (arith, most, count, asks)) watched (watched_else slots.watch w i others)

-- the first free slot is free, and those below it are taken
pub first_is_free : (slots : List (Option Subscription)) (i : ℕ) → i ≡ first_free slots
    → i < length slots
    → (slot_in slots i ≡ None) × ((j : ℕ) → j < i → IsSome (slot_in slots j))
first_is_free [] i is lt = absurd (omega arith)
first_is_free (None ∷ slots) i is lt = rw is (refl, λ j low. absurd (omega arith))
first_is_free (Some s ∷ slots) zero is lt = absurd (omega (arith, is))
first_is_free (Some s ∷ slots) (suc i) is lt =
    let rest = first_is_free slots i (omega (arith, is)) (omega arith) in
    (rest.0, below rest.1)
  where
    below : ((j : ℕ) → j < i → IsSome (slot_in slots j))
        → (j : ℕ) → j < suc i → IsSome (slot_in (Some s ∷ slots) j)
    below rest zero low = refl
    below rest (suc j) low = rest j (omega arith)

-- so not all are taken
pub first_not_all : (i n : ℕ) → i ≡ n → i < 64 → false ≡ (n == 64)
first_not_all i n is lt = grind (arith, nat_tests)

-- where the numbers of an opening fit, it is refused just by what else may refuse it
pub sizes_fit : (port backlog : ℕ) (rows : List (Bool × Refusal)) → port ≢ 0 → port ≤ 1024
    → backlog ≤ 65536 → first_refusal (size_refusals port backlog ++ rows) ≡ first_refusal rows
sizes_fit port backlog rows some high few = grind (arith, nat_tests)

-- nothing refuses an opening whose numbers fit, with a slot free and an opening left
pub opening_fits : (full : Bool) (openings limit port backlog : ℕ) → port ≢ 0 → port ≤ 1024
    → backlog ≤ 65536 → false ≡ full → openings < limit
    → first_refusal (opening_refusals full openings limit port backlog) ≡ None
opening_fits full openings limit port backlog some high few free less = grind (arith, nat_tests)

-- of a subscription that was just made nothing had been taken
pub begun_seen : (s : Subscription) (r : ReadingHold) (book : Book) (q : Query) (flags : Flags)
    (port backlog : ℕ) → IsNewSubscription s r book q flags port backlog → IsSeen s
begun_seen s r book q flags port backlog b = rw b.last_report (omega arith)

-- ---- an answer of a slot, and that of the opening

-- the refusal of an answer, if it is one
abbrev error_or : {T : Type 0} → Refusal → Result T Refusal → Refusal
error_or d (Ok x) = d
error_or d (Err e) = e

-- a refusal for the opening's numbers is that of another answer with it
same_refused : (T U : Type 0) (o : Option Refusal) (e : Refusal) (r : Result T Refusal)
    (s : Result U Refusal) → r ≡ Err e → s ≡ Err e → IfSome o (λ x. r ≡ Err x)
    → IfSome o (λ x. s ≡ Err x)
same_refused T U None e r s one two is = tt
same_refused T U (Some x) e r s one two is = two ∙ ap Err (ap (error_or e) (sym one ∙ is))

-- where a slot was answered, the numbers fit
no_refused : {T U : Type 0} (o : Option Refusal) (x : T) (r : Result U Refusal)
    → IfSome o (λ e. Ok x ≡ Err e) → IfSome o (λ e. r ≡ Err e)
no_refused None x r is = tt
no_refused (Some e) x r is = absurd (cc)

-- what holds anyway holds where there is none
if_none : {T P : Type 0} (o : Option T) → P → IfNone o P
if_none None p = p
if_none (Some x) p = tt

module _ {T U : Type 0} (f : T → ℕ) (g : U → ℕ) (slots : ServerSlots) (limit port backlog : ℕ)
  where
    -- one that is refused before it takes memory is refused
    pub answer_refused : (e : Refusal) → IsOpeningAnswer f slots limit port backlog (Err e)
        → IsOpeningAnswer g slots limit port backlog (Err e)
    answer_refused e a =
        record {
          table = a.table;
          free = tt;
          lowest = tt;
          refused = same_refused T U (size_refusal port backlog) e (Err e) (Err e) refl refl
              a.refused;
          others = a.others;
        }

    -- one that gets a slot is refused for want of memory alone
    pub answer_memory : (x : T) (e : Refusal) → e ≡ NoMemory
        → IsOpeningAnswer f slots limit port backlog (Ok x)
        → IsOpeningAnswer g slots limit port backlog (Err e)
    answer_memory x e is a =
        record {
          table = (tt, is ∙ ap (λ (o : Option Refusal). unwrap_or o NoMemory) (sym a.table.0));
          free = tt;
          lowest = tt;
          refused = no_refused (size_refusal port backlog) x (Err e) a.refused;
          others = if_none (size_refusal port backlog) (inr (inr is));
        }

    -- or it gets that slot
    pub answer_given : (x : T) (y : U) → g y ≡ f x
        → IsOpeningAnswer f slots limit port backlog (Ok x)
        → IsOpeningAnswer g slots limit port backlog (Ok y)
    answer_given x y is a =
        record {
          table = a.table;
          free = rw is a.free;
          lowest = rw is a.lowest;
          refused = no_refused (size_refusal port backlog) x (Ok y) a.refused;
          others = if_none (size_refusal port backlog) tt;
        }

-- ---- the slots over which an opening under the lock was answered

-- Its seat recorded the moment of the keeper of these slots.
pub opened_over : (board : BoardName) (start : State) (old at new : LockHold) (v : State)
    (s t : SeatToken Identity) (limit port backlog : ℕ) (result : Result Opened Refusal)
    → IsState board start at.slots v at.seats → at ≡ new → SameButKnown old.slots new.slots
    → t.book ≡ old.slots.keeper.book
    → t.moments ≡ s.moments ++ moment_of new.slots.keeper ∷ []
    → limit ≡ v.limit
    → IsOpeningAnswer (λ (o : Opened). o.slot) at.slots limit port backlog result
    → IfOk result (λ o. o.reading.port.floor.book.value ≡ at.slots.keeper)
    → (under : ServerSlots) × SameButKnown old.slots under
    × IsOpenedOver under start s t port backlog result
opened_over board start old at new v s t limit port backlog result is there same book moments most
    answered keeper =
    let under = at.slots in
    let kept : SameButKnown old.slots under =
    subst (λ (h : LockHold). SameButKnown old.slots h.slots) (sym there) same in
    let keeps : under.keeper.book ≡ t.book =
    kept.book ∙ sym book in (
      under,
      kept,
      record {
        keeps = keeps;
        stands = subst (AreConsistent under) keeps is.6;
        noted = record {
          moments = moments
              ∙ (λ k. s.moments ++ moment_of ((sym there k).slots.keeper) ∷ []);
          counted = is.7;
        };
        openings = omega (arith, is.4, is.5);
        answered = subst
            (λ (n : ℕ). IsOpeningAnswer (λ (o : Opened). o.slot) under n port backlog result)
            (most ∙ is.4) answered;
        keeper = keeper;
      },
    )
