-- The taken slots, and visits of all of them.
use Rattle.std.proofs.Common.{◌≡◌, ◌≢◌, ◌∙◌, ℕ, ◌+◌, ◌≤◌, List, length, true, false, true≢false, Option, Some, None, refl, sym, ap, arith, Bool, subst, ◌<◌}
use Rattle.std.specs.Prelude.{◌&&◌, IsSome, slice_get, slice_index, slice_set}
use Rattle.lq_board.specs.Author.{HasHeard}
use Rattle.std.specs.Option.{option_flatten}
use mathlib.Core.Logic.{dite}
use native.Mathlib.Decide.{ℕ_discrete}
use Rattle.lq_board.specs.Known.{KnownSlot}
use Rattle.lq_board.specs.Slot.{slot_at}
use Rattle.lq_desk_sub.specs.SlotSet.{IsEmpty, has}
use Rattle.lq_desk_sub.specs.SlotTable.{HasTaken}
use Rattle.lq_desk_sub.specs.Visits.{Visits}
use Rattle.lq_volume.specs.Book.{Book}
use Rattle.lq_server_slots.specs.declared.identity.Identity.{Identity}
use Rattle.lq_server_slots.specs.declared.slots.ServerSlots.{ServerSlots}
use Rattle.lq_server_slots.specs.declared.subscription.Subscription.{Subscription}
use Rattle.lq_server_slots.specs.Slots.{AreConsistent, IsServed, KnowsHeard, SlotHears, MarksCover, SlotIsWatched, SlotMarkCovers, OnlyAt, Serves, SlotIs, SlotStands, SlotsAre, asks_of, slot_in, IsNoticed, HasPreparedAt, IsTakenNoticed}
use Rattle.lq_volume.specs.declared.change.Change.{Change}
use Rattle.lq_server_slots.specs.Changing.{Prepares}
use Rattle.lq_volume.specs.State.{State}
use Rattle.std.proofs.lemmas.Option.{slice_get_within}
use Rattle.lq_server_slots.proofs.SlotLemmas.{taken_alike}
use Rattle.lq_server_slots.proofs.TableLemmas.{in_here, in_else, watched_same}
use Rattle.lq_server_slots.proofs.MarkLemmas.{mark_covers-same, slot_covers-same}

-- a slot whose seat is out is taken
pub taken_out : (o : Option Subscription) (p : KnownSlot Identity) (book : Book)
    → SlotStands o p book → p.out ≡ true → IsSome o
taken_out o p book fits out = grind arith

-- how often the slots' seats have asked, as the keeper knows, where one slot's count rises
pub asks_rise : (first old new : List (KnownSlot Identity)) (place : ℕ) → OnlyAt old new place
    → (slot_at old place).asks ≤ (slot_at new place).asks
    → ((k : ℕ) → (slot_at first k).asks ≤ (slot_at old k).asks)
    → (k : ℕ) → (slot_at first k).asks ≤ (slot_at new k).asks
asks_rise first old new place only more before k =
    dite (ℕ_discrete k place) (λ (e : k ≡ place). rw e (omega (arith, before place, more)))
    (λ (ne : k ≢ place). rw (only.others k ne) (before k))

-- what holds of what the keeper knows of a slot, whatever its subscription
any_slot : (P : KnownSlot Identity → Type 0) (o : Option Subscription) (p : KnownSlot Identity)
    → P p → SlotIs (λ s q. P q) o p
any_slot P None p is = tt
any_slot P (Some s) p is = is

-- what was heard of the taken slots is known where the same slots are taken
pub knows_on : (heard : List ℕ) (n : ℕ) (old new : List (Option Subscription))
    (known : List (KnownSlot Identity)) → MarksCover n old new → KnowsHeard heard old known
    → KnowsHeard heard new known
knows_on heard n old new known marks is i low = by (slot_in old i) refl
  where
    by : (o : Option Subscription) → slot_in old i ≡ o
        → SlotHears heard i (slot_in new i) (slot_at known (i + 1))
    by None was = rw (rw was at (marks i low)) tt
    by (Some s) was =
        any_slot (λ q. slice_index heard (i + 1) ≤ q.asks) (slot_in new i) (slot_at known (i + 1))
        (rw was at (is i low))

-- who knows what more was heard knows what less was heard
pub knows_less : (more less : List ℕ) (slots : List (Option Subscription))
    (known : List (KnownSlot Identity)) → HasHeard more less → KnowsHeard more slots known
    → KnowsHeard less slots known
knows_less more less slots known has is i low = by (slot_in slots i) (is i low)
  where
    by : (o : Option Subscription) → SlotHears more i o (slot_at known (i + 1))
        → SlotHears less i o (slot_at known (i + 1))
    by None at = tt
    by (Some s) at = let most = has (i + 1) (omega arith) in omega (arith, at, most)

-- one slot was noticed
pub heard_set : (heard : List ℕ) (slots : List (Option Subscription))
    (ps qs : List (KnownSlot Identity)) (k j : ℕ) (t : Subscription) → k < length slots
    → OnlyAt ps qs (k + 1) → slice_index heard (k + 1) ≤ (slot_at qs (k + 1)).asks
    → (j ≢ k → SlotHears heard j (slot_in slots j) (slot_at ps (j + 1)))
    → SlotHears heard j (slot_in (slice_set slots k (Some t)) j) (slot_at qs (j + 1))
heard_set heard slots ps qs k j t lt only here others =
    dite (ℕ_discrete j k) (λ (e : j ≡ k). rw (e, in_here slots k (Some t) lt) here)
    (λ (ne : j ≢ k). rw (
      in_else slots k j (Some t) ne,
      only.others (j + 1) (λ e. ne (omega (arith, e))),
    ) (others ne))

-- what holds of a free slot holds of each outside the set of the taken
pub outside_taken : (P : Option Subscription → Type 0) (set : ℕ)
    (slots : List (Option Subscription)) (i : ℕ) → HasTaken set slots → has set i ≡ false → P None
    → P (slot_in slots i)
outside_taken P set slots i taken out free = by (slice_get slots i) refl
  where
    by : (o : Option (Option Subscription)) → slice_get slots i ≡ o → P (option_flatten o)
    by None was = free
    by (Some None) was = free
    by (Some (Some s)) was = absurd (true≢false (sym (taken i (Some s) was) ∙ out))

-- what holds of a free slot, and of one after its visit, holds of each after visits of all taken
pub visits-all : {T S : Type 0} (allows : S → ℕ → T → Type 0) (did : S → ℕ → T → T → Type 0)
    (set : ℕ) (xs ys : List (Option T)) (s t : S) → Visits allows did (has set) xs ys s t
    → HasTaken set xs → (P : Option T → Type 0) (i : ℕ)
    → (option_flatten (slice_get xs i) ≡ None → P None)
    → ((x y : T) → option_flatten (slice_get xs i) ≡ Some x → did t i x y → P (Some y))
    → P (option_flatten (slice_get ys i))
visits-all {T} {S} allows did set xs ys s t v taken P i free visited = by (slice_get xs i) refl
  where
    by : (o : Option (Option T)) → slice_get xs i ≡ o → P (option_flatten (slice_get ys i))
    by None was =
        rw (v.left i (λ x at. absurd (let no : ⊥ = cc in no)), was) (free (ap option_flatten was))
    by (Some None) was =
        rw (v.left i (λ x at. absurd (let no : ⊥ = cc in no)), was) (free (ap option_flatten was))
    by (Some (Some x)) was =
        let d = v.visited i x (taken i (Some x) was) was in
        rw d.1 (visited x d.0 (ap option_flatten was) d.2)

-- what holds of a slot outside a set, of a free one, and of one after its visit, holds of each
-- after visits of those in the set
pub visits-some : {T S : Type 0} (allows : S → ℕ → T → Type 0) (did : S → ℕ → T → T → Type 0)
    (set : ℕ) (xs ys : List (Option T)) (s t : S) → Visits allows did (has set) xs ys s t
    → (P : Option T → Type 0) (i : ℕ)
    → (has set i ≡ false → P (option_flatten (slice_get xs i)))
    → (option_flatten (slice_get xs i) ≡ None → P None)
    → ((x y : T) → option_flatten (slice_get xs i) ≡ Some x → did t i x y → P (Some y))
    → P (option_flatten (slice_get ys i))
visits-some {T} {S} allows did set xs ys s t v P i out free visited =
    by (slice_get xs i) refl (has set i) refl
  where
    by : (o : Option (Option T)) → slice_get xs i ≡ o → (b : Bool) → has set i ≡ b
        → P (option_flatten (slice_get ys i))
    by None was b is =
        rw (v.left i (λ x at. absurd (let no : ⊥ = cc in no)), was) (free (ap option_flatten was))
    by (Some None) was b is =
        rw (v.left i (λ x at. absurd (let no : ⊥ = cc in no)), was) (free (ap option_flatten was))
    by (Some (Some x)) was true is =
        let d = v.visited i x is was in rw d.1 (visited x d.0 (ap option_flatten was) d.2)
    by (Some (Some x)) was false is = rw (v.left i (λ z at. is)) (out is)

-- what stands in a slot that is found taken
pub noticed_at : (slots : ServerSlots) (book : Book) (i : ℕ) (x : Subscription)
    → AreConsistent slots book → SlotsAre IsNoticed slots.subscriptions slots.keeper.slots
    → slice_get slots.subscriptions i ≡ Some (Some x)
    → IsTakenNoticed x (slot_at slots.keeper.slots (i + 1)) book
noticed_at slots book i x h noticed found =
    let p = slot_at slots.keeper.slots (i + 1) in
    let low : i < 64 =
    omega (arith, h.wide, slice_get_within slots.subscriptions i (Some x) found) in
    let is : slot_in slots.subscriptions i ≡ Some x = ap option_flatten found in
    record {
      taken = subst (λ (o : Option Subscription). SlotStands o p book) is (h.each i low);
      noticed = subst (λ (o : Option Subscription). SlotIs IsNoticed o p) is (noticed i low);
    }

-- all slots, which stood over a book before, were served over the keeper's
pub all_served : (allows : Unit {0} → ℕ → Subscription → Type 0) (slots : ServerSlots)
    (set number : ℕ) (ys : List (Option Subscription)) (before : Book) (s t : Unit {0})
    → AreConsistent slots before → HasTaken set slots.subscriptions → length ys ≡ 64
    → Visits allows
    (λ t i x y. Serves number x y (slot_at slots.keeper.slots (i + 1)) slots.keeper.book)
    (has set) slots.subscriptions ys s t
    → AreConsistent (record slots { subscriptions = ys }) slots.keeper.book
    × SlotsAre IsServed ys slots.keeper.slots × MarksCover number slots.subscriptions ys
all_served allows slots set number ys before s t h taken wide v =
    let each = visits-all allows _ set slots.subscriptions ys s t v taken in (
      record {
        known = h.known;
        wide = wide;
        each = λ i low. each
            (λ o. SlotStands o (slot_at slots.keeper.slots (i + 1)) slots.keeper.book) i
            (λ none. rw none at (h.each i low)) (λ x y some d. d.taken);
        asks = λ i low. each
            (λ o. asks_of o (slot_at slots.keeper.slots (i + 1)) ≤ slots.openings) i
            (λ none. rw none at (h.asks i low))
            (λ x y some d. rw d.asks (rw some at (h.asks i low)));
        watched = λ i low. each (λ o. SlotIsWatched slots.watch i o) i (λ none. tt)
            (λ x y some d. watched_same slots.watch i x y d.query
            (rw some at (h.watched i low)));
      },
      λ i low. each (λ o. SlotIs IsServed o (slot_at slots.keeper.slots (i + 1))) i (λ none. tt)
          (λ x y some d. d.served),
      λ i low. each (λ o. SlotMarkCovers number (slot_in slots.subscriptions i) o) i
          (λ none. rw none refl) (λ x y some d. rw some d.mark),
    )

-- where a change is shown to no taken slot, its messages are prepared in each that it is shown to
pub none_prepared : (both asked taken n : ℕ) (old new : List (Option Subscription)) (v : State)
    (c : Change) → HasTaken taken old → ((i : ℕ) → has both i ≡ (has asked i && has taken i))
    → IsEmpty (has both) → MarksCover n old new → (i : ℕ) → i < 64 → has asked i ≡ true
    → HasPreparedAt (slot_in new i) v c
none_prepared both asked taken n old new v c has_taken together none marks i low is =
    let out : has taken i ≡ false = sym (rw is at (together i)) ∙ none i in
    let free : slot_in old i ≡ None = outside_taken (λ o. o ≡ None) taken old i has_taken out refl
    in
    let stays : slot_in new i ≡ None = rw free at (marks i low) in
    rw stays tt

-- the slots of a set had the messages of a change prepared, unless memory ran out; no mark is new
pub all_prepared : (v : State) (c : Change) (allows : Bool → ℕ → Subscription → Type 0)
    (slots : ServerSlots) (set number : ℕ) (ys : List (Option Subscription)) (s t : Bool)
    → AreConsistent slots slots.keeper.book
    → SlotsAre IsNoticed slots.subscriptions slots.keeper.slots → length ys ≡ 64
    → Visits allows (λ t i x y. Prepares v c t x y) (has set) slots.subscriptions ys s t
    → AreConsistent (record slots { subscriptions = ys }) slots.keeper.book
    × SlotsAre IsNoticed ys slots.keeper.slots
    × (t ≡ false → (i : ℕ) → i < 64 → has set i ≡ true → HasPreparedAt (slot_in ys i) v c)
    × MarksCover number slots.subscriptions ys
all_prepared v c allows slots set number ys s t h noticed wide visits =
    let each = visits-some allows (λ t i x y. Prepares v c t x y) set slots.subscriptions ys s t
    visits in
    let p : ℕ → KnownSlot Identity = λ i. slot_at slots.keeper.slots (i + 1) in (
      record {
        known = h.known;
        wide = wide;
        each = λ i low. each (λ o. SlotStands o (p i) slots.keeper.book) i
            (λ out. h.each i low) (λ none. rw none at (h.each i low))
            (λ x y some d. taken_alike x y (p i) slots.keeper.book
            (rw some at (h.each i low)) d.held d.others d.first_close);
        asks = λ i low. each (λ o. asks_of o (p i) ≤ slots.openings) i
            (λ out. h.asks i low) (λ none. rw none at (h.asks i low))
            (λ x y some d. rw d.others.asks (rw some at (h.asks i low)));
        watched = λ i low. each (λ o. SlotIsWatched slots.watch i o) i
            (λ out. h.watched i low) (λ none. tt)
            (λ x y some d. watched_same slots.watch i x y (d.others.query, d.others.flags)
            (rw some at (h.watched i low)));
      },
      λ i low. each (λ o. SlotIs IsNoticed o (p i)) i (λ out. noticed i low) (λ none. tt)
          (λ x y some d. rw (d.others.asks, d.held) (rw some at (noticed i low))),
      λ whole i low asked. each (λ o. HasPreparedAt o v c) i
          (λ out. absurd (true≢false (sym asked ∙ out))) (λ none. tt)
          (λ x y some d. d.prepared whole),
      λ i low. each (λ o. SlotMarkCovers number (slot_in slots.subscriptions i) o) i
          (λ out. slot_covers-same number (slot_in slots.subscriptions i)) (λ none. rw none refl)
          (λ x y some d. rw some (mark_covers-same number x.sub.held.mark y.sub.held.mark
          (ap (λ h. h.mark) d.held))),
    )
