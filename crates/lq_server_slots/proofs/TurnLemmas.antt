-- A change under the lock is a turn of the core's world, slot by slot.
use Rattle.std.proofs.Common.{◌≡◌, ◌≢◌, ◌⊎◌, ℕ, ◌+◌, ◌-◌, ◌<◌, ◌≤◌, Bool, true, false, List, [], ◌∷◌, length, map, drop, Option, Some, None, refl, sym, ap, ◌∙◌, subst, inl, inr, ⊎_elim, arith, length-append, length-drop}
use Rattle.std.specs.Prelude.{nat_lt, slice_set}
use mathlib.Core.Logic.{dite}
use native.Mathlib.Decide.{ℕ_discrete}
use lib.ListN.{length-map}
use Rattle.lq_volume.specs.declared.change.Change.{Change}
use Rattle.lq_volume.specs.Book.{Book, state_of}
use Rattle.lq_volume.specs.Change.{IsLawful}
use Rattle.lq_board.specs.Known.{KnownSlot}
use Rattle.lq_board.specs.Book.{IsFullBook}
use Rattle.lq_board.specs.Slot.{slot_at}
use Rattle.lq_update.specs.declared.message.Message.{Message}
use Rattle.lq_update.specs.declared.parcel.Parcel.{Parcel}
use Rattle.lq_update.specs.declared.parcel.Parcel.TheVariants.{Update}
use Rattle.lq_port.specs.End.{End, all_put, Gains}
use Rattle.lq_desk_sub.specs.Held.{Held}
use Rattle.lq_desk_sub.specs.Passing.{TellsNothing}
use Rattle.lq_desk_sub.specs.SlotSet.{has}
use Rattle.lq_desk_sub.specs.SlotTable.{HasTaken}
use Rattle.lq_desk_sub.specs.Visits.{Visits}
use Rattle.lq_desk_world.specs.World.{Subscribed, updates_due, mark_behind, whole, to_come, after_change}
use Rattle.lq_server_slots.specs.declared.delivery.Delivery.{Delivery}
use Rattle.lq_server_slots.specs.declared.delivery.Opening.{Opening}
use Rattle.lq_server_slots.specs.declared.identity.Identity.{Identity}
use Rattle.lq_server_slots.specs.declared.subscription.Subscription.{Subscription}
use Rattle.lq_server_slots.specs.Marking.{held_noticed, held_committed}
use Rattle.lq_server_slots.specs.Shown.{with_mark}
use Rattle.lq_server_slots.specs.Slots.{OnlyAt, slot_in}
use Rattle.lq_server_slots.specs.Standing.{IsConsistentAt, IsPreparedIf, SameButHeld, SameButPuts, CannotPut, IsOut}
use Rattle.lq_server_slots.specs.Turn.{known_subscription, after_act, after_notice, PutsAndTakes, GainsParcels, SlotNoticed, AllNoticed, SlotPuts, AllPut, ServesAs}
use Rattle.lq_server_slots.proofs.ShownLemmas.{acts_shown, passed_on}
use Rattle.lq_server_slots.proofs.TableLemmas.{in_here, in_else}
use Rattle.lq_server_slots.proofs.TakenLemmas.{visits-all, visits-some}

-- ---- one subscription

-- only its mark differs
known_same : (s t : Subscription) (q : KnownSlot Identity) → SameButHeld s t
    → known_subscription t q ≡ with_mark (known_subscription s q) t.sub.held.mark
known_same s t q o i = record {
  query = o.query i;
  flags = o.flags i;
  opened = o.opened i;
  port = o.places i;
  backlog = o.backlog i;
  hang_up_asked = nat_lt (o.asks i) q.asks;
  put = length (all_put (o.input i));
  taken = length (o.input i).taken;
  end = (with_mark (known_subscription t q) t.sub.held.mark).end;
}

-- not even that
pub known_held : (s t : Subscription) (q : KnownSlot Identity) → SameButHeld s t
    → t.sub.held ≡ s.sub.held → known_subscription t q ≡ known_subscription s q
known_held s t q others held =
    known_same s t q others ∙ ap (λ (h : Held). with_mark (known_subscription s q) h.mark) held

-- a notice under the lock is one of the world
pub notice_known : (s t : Subscription) (q : KnownSlot Identity) (b : Book) (asked : Bool)
    (number : ℕ) → IsConsistentAt s b → number ≡ length b.changes → asked ≡ nat_lt s.asks q.asks
    → t.sub.held ≡ held_noticed asked number s.sub.held → SameButHeld s t
    → known_subscription t q ≡ after_notice b (known_subscription s q)
notice_known s t q b asked number stands is by held others =
    let acts = acts_shown s b (nat_lt s.asks q.asks) (length s.input.taken) stands.full stands in
    known_same s t q others
    ∙ ap (λ (h : Held). with_mark (known_subscription s q) h.mark)
    (held ∙ (λ i. held_noticed (by i) (is i) s.sub.held))
    ∙ sym (ap (after_act (known_subscription s q)) acts.notice)

-- a change that has nothing for it leaves it
untold : (c : Change) (b : Book) (u : Subscribed) → IsFullBook b → IsLawful (state_of b) c
    → TellsNothing u.query u.flags c → after_change b c u ≡ u
untold c b u full lawful none =
    let nothing = none (state_of b) (length (updates_due b u) + 1) full.state lawful in
    grind arith

-- a commit under the lock is a change of the world
pub commit_known : (s t : Subscription) (q : KnownSlot Identity) (b : Book) (c : Change)
    (asked : Bool) → IsConsistentAt s b → IsLawful (state_of b) c
    → IsPreparedIf asked s.sub (state_of b) c
    → (asked ≡ true → t.sub.held ≡ held_committed s.sub)
    → (asked ≡ false → t.sub.held ≡ s.sub.held)
    → SameButHeld s t
    → known_subscription t q ≡ after_change b c (known_subscription s q)
commit_known s t q b c true stands lawful prepared some none others =
    let acts = acts_shown s b (nat_lt s.asks q.asks) (length s.input.taken) stands.full stands in
    known_same s t q others
    ∙ ap (λ (h : Held). with_mark (known_subscription s q) h.mark) (some refl)
    ∙ sym (acts.change c (prepared.some refl))
commit_known s t q b c false stands lawful prepared some none others =
    known_held s t q others (none refl)
    ∙ sym (untold c b (known_subscription s q) stands.full lawful (prepared.none refl))

-- where nothing is to come, all was put
all_out : (b : Book) (u : Subscribed) → to_come b u ≡ [] → length (whole b u) ≤ u.put
all_out b u none =
    let due = updates_due b u in
    let mark = mark_behind (length due) u.end in
    let zero = ap (length {A = Parcel}) none in
    let one = length-append (map (λ (m : Message). Update m) (drop u.put due))
    (drop (u.put - length due) mark) in
    let two = length-map (drop u.put due) (λ (m : Message). Update m) in
    let three = length-drop u.put due in
    let four = length-drop (u.put - length due) mark in
    let five = length-append (map (λ (m : Message). Update m) due) mark in
    let six = length-map due (λ (m : Message). Update m) in
    omega (arith, zero, one, two, three, four, five, six)

-- nothing is left to put
out_comes : (s : Subscription) (q : KnownSlot Identity) (b : Book) → IsConsistentAt s b
    → IsOut s.sub.held → to_come b (known_subscription s q) ≡ []
out_comes s q b stands out =
    let passed =
    passed_on (nat_lt s.asks q.asks) (length s.input.taken) s b stands.full stands in
    grind arith

-- puts under the lock are puts of the world
pub puts_known : (s t : Subscription) (q : KnownSlot Identity) (b : Book) → IsConsistentAt t b
    → SameButPuts s t → length s.input.taken ≤ length t.input.taken → GainsParcels s.input t.input
    → CannotPut t → PutsAndTakes b (known_subscription s q) (known_subscription t q)
puts_known s t q b stands a taken gained stuck =
    let long = length-append t.input.taken t.input.ahead in
    record {
      same = λ i. record {
        query = a.held.query i;
        flags = a.held.flags i;
        opened = a.held.opened i;
        port = a.places i;
        backlog = a.held.backlog i;
        hang_up_asked = nat_lt (a.asks i) q.asks;
        put = length (all_put t.input);
        taken = length t.input.taken;
        end = (with_mark (known_subscription t q) (a.held.mark i)).end;
      };
      put = gained.more;
      taken = taken;
      within = omega (arith, long);
      room = ⊎_elim
          (λ (e : t.input ≡ s.input).
          inl (ap (λ (d : End Delivery Opening). length (all_put d)) e))
          (λ (r : length t.input.ahead ≤ t.input.places).
          inr (let places = stands.port in omega (arith, long, r, places)))
          gained.room;
      still = ⊎_elim
          (λ (out : IsOut t.sub.held).
          inl (all_out b (known_subscription t q) (out_comes t q b stands out)))
          (λ (full : t.places ≤ length t.input.ahead). inr (omega (arith, long, full)))
          stuck;
    }

-- an end that gained one more
pub gained_one : (d e : End Delivery Opening) (x : Delivery) → Gains d x e → GainsParcels d e
gained_one d e x g =
    let more = ap (length {A = Delivery}) g.put in
    let long = length-append (all_put d) (x ∷ []) in
    record { more = omega (arith, more, long); room = inr g.within }

-- none
pub gained_none : (d e : End Delivery Opening) → e ≡ d → GainsParcels d e
gained_none d e is =
    let more = ap (λ (a : End Delivery Opening). length (all_put a)) is in
    record { more = omega (arith, more); room = inl is }

-- and more
pub gained_on : (d e f : End Delivery Opening) → GainsParcels d e → GainsParcels e f
    → GainsParcels d f
gained_on d e f one two =
    record {
      more = omega (arith, one.more, two.more);
      room = ⊎_elim
          (λ (is : f ≡ e). ⊎_elim (λ (was : e ≡ d). inl (is ∙ was))
          (λ (r : length e.ahead ≤ e.places).
          inr (subst (λ (a : End Delivery Opening). length a.ahead ≤ a.places) (sym is) r))
          one.room)
          (λ (r : length f.ahead ≤ f.places). inr r)
          two.room;
    }

-- ---- all slots

-- a noticed slot, whose subscription is then prepared
noticed_as : (b : Book) (o : Option Subscription) (x y : Subscription) (q : KnownSlot Identity)
    → known_subscription y q ≡ known_subscription x q → SlotNoticed b o (Some x) q
    → SlotNoticed b o (Some y) q
noticed_as b None x y q same is = absurd (let no : ⊥ = cc in no)
noticed_as b (Some s) x y q same is = same ∙ is

-- slots that were noticed, where messages were prepared
pub noticed_prepared : (b : Book)
    (old xs ys : List (Option Subscription)) (known : List (KnownSlot Identity))
    (allows : Bool → ℕ → Subscription → Type 0)
    (did : Bool → ℕ → Subscription → Subscription → Type 0) (set : ℕ) (s t : Bool)
    → ((u : Bool) (i : ℕ) (x y : Subscription) → did u i x y
    → SameButHeld x y × (y.sub.held ≡ x.sub.held))
    → Visits allows did (has set) xs ys s t → AllNoticed b old xs known → AllNoticed b old ys known
noticed_prepared b old xs ys known allows did set s t same v was i low =
    let q = slot_at known (i + 1) in
    visits-some allows did set xs ys s t v (λ o. SlotNoticed b (slot_in old i) o q) i
    (λ out. was i low) (λ none. rw none at (was i low))
    (λ x y some d.
    let e = same t i x y d in
    noticed_as b (slot_in old i) x y q (known_held x y q e.0 e.1) (rw some at (was i low)))

-- slots whose parcels were put
pub put_all : (b : Book) (f : Subscribed → Subscribed) (number : ℕ)
    (xs ys : List (Option Subscription)) (known : List (KnownSlot Identity))
    (allows : Unit {0} → ℕ → Subscription → Type 0) (set : ℕ) (s t : Unit {0})
    → Visits allows (λ t i x y. ServesAs f number x y (slot_at known (i + 1)) b) (has set) xs ys s
    t
    → HasTaken set xs → AllPut b f xs ys known
put_all b f number xs ys known allows set s t v taken i low =
    visits-all allows _ set xs ys s t v taken
    (λ o. SlotPuts b f (slot_in xs i) o (slot_at known (i + 1))) i (λ none. rw none refl)
    (λ x y some d. rw some d.puts)

-- a visit that did more
pub visits_less : {T S : Type 0} {allows : S → ℕ → T → Type 0} {did less : S → ℕ → T → T → Type 0}
    {in_set : ℕ → Bool} {xs ys : List (Option T)} {s t : S}
    → ((u : S) (i : ℕ) (x y : T) → did u i x y → less u i x y)
    → Visits allows did in_set xs ys s t → Visits allows less in_set xs ys s t
visits_less {t = t} f v =
    record {
      visited = λ i x is at. let d = v.visited i x is at in (d.0, d.1, f t i x d.0 d.2);
      left = v.left;
      allowed = v.allowed;
    }

-- a notice of all slots, and then what was done and put
slot_turned : (b d : Book) (f : Subscribed → Subscribed) (o m n : Option Subscription)
    (q : KnownSlot Identity) → SlotNoticed b o m q → SlotPuts d f m n q
    → SlotPuts d (λ u. f (after_notice b u)) o n q
slot_turned b d f None m n q is puts =
    subst (λ (x : Option Subscription). SlotPuts d f x n q) is puts
slot_turned b d f (Some s) None n q is puts = absurd is
slot_turned b d f (Some s) (Some t) None q is puts = puts
slot_turned b d f (Some s) (Some t) (Some u) q is puts =
    subst (λ (x : Subscribed). PutsAndTakes d (f x) (known_subscription u q)) is puts

pub all_turned : (b d : Book) (f : Subscribed → Subscribed)
    (old mid new : List (Option Subscription))
    (known : List (KnownSlot Identity)) → AllNoticed b old mid known → AllPut d f mid new known
    → AllPut d (λ u. f (after_notice b u)) old new known
all_turned b d f old mid new known is puts i low =
    slot_turned b d f (slot_in old i) (slot_in mid i) (slot_in new i) (slot_at known (i + 1))
    (is i low) (puts i low)

-- a slot that is free was free, and stays
pub none_shown : (b : Book) (o : Option Subscription) (q : KnownSlot Identity) → o ≡ None
    → SlotNoticed b o o q
none_shown b o q is = rw is refl

-- one slot was noticed
pub shown_set : (b : Book) (first slots : List (Option Subscription))
    (ps qs : List (KnownSlot Identity)) (k j : ℕ) (s t : Subscription) → k < length slots
    → OnlyAt ps qs (k + 1) → Some s ≡ slot_in first k
    → known_subscription t (slot_at qs (k + 1))
    ≡ after_notice b (known_subscription s (slot_at qs (k + 1)))
    → (j ≢ k → SlotNoticed b (slot_in first j) (slot_in slots j) (slot_at ps (j + 1)))
    → SlotNoticed b (slot_in first j) (slot_in (slice_set slots k (Some t)) j) (slot_at qs (j + 1))
shown_set b first slots ps qs k j s t lt only there is others =
    dite (ℕ_discrete j k) (λ (e : j ≡ k). rw (e, ← there, in_here slots k (Some t) lt) is)
    (λ (ne : j ≢ k). rw (
      in_else slots k j (Some t) ne,
      only.others (j + 1) (λ e. ne (omega (arith, e))),
    ) (others ne))
