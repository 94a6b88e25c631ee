-- Which slots have a parcel for the turn of a read.
use Rattle.std.proofs.Common.{◌≡◌, ◌≢◌, ℕ, suc, ◌-◌, ◌≤◌, ◌<◌, List, refl, ap, sym, map, length, ◌∙◌, arith, Some, None, Option, true, false, inl, inr}
use Rattle.std.specs.Prelude.{◌&&◌, ◌||◌, ◌==◌, not, nat_lt, is_some, slice_get}
use Rattle.std.specs.Int.{bit_at}
use Rattle.std.specs.Option.{option_flatten}
use Rattle.std.proofs.lemmas.Bool.{cases_Bool, cases_eq}
use Rattle.std.proofs.lemmas.Bool.Decides.{nat_tests}
use Rattle.std.proofs.lemmas.Option.{slice_get-map, slice_get_cases}
use Rattle.lq_desk_world.specs.declared.event.Event.TheVariants.{Take}
use Rattle.lq_desk_world.specs.Events.{Answer}
use Rattle.lq_desk_sub.specs.Held.{next_parcel}
use Rattle.lq_desk_sub.specs.SlotSet.{has, IsEmpty, IsTakenOut}
use Rattle.lq_desk_sub.specs.SlotTable.{HasTaken}
use Rattle.lq_desk.specs.Slot.{KeptSlot, PreparedSlot, after_put, after_puts, can_move, filled, is_ending, noticed, passes, read_slot}
use Rattle.lq_desk.specs.Act.{read_turn}
use Rattle.lq_desk.specs.DeskState.{DeskState, at_index, kept_at}
use Rattle.lq_desk.specs.Ready.{MarksParcels, has_parcel, is_parcel}
use Rattle.lq_desk.specs.KeptTurn.{kept_turn_outcome}
use Rattle.lq_desk.proofs.PutLemmas.{filled-quiet, noticed-keeps, put-longer, puts-longer}
use Rattle.lq_desk.proofs.SlotTurnLemmas.{read-events}
use Rattle.lq_desk.proofs.SlotsLemmas.{kept_slot}

-- ---- a read

-- a parcel that can move does
moved-some : (n : ℕ) (k : KeptSlot) → can_move k ≡ true
    → 0 < length (after_puts (suc n) k).queue
moved-some n k moves = omega (arith, (put-longer k).1 moves, puts-longer n (after_put k))

-- a filled port has a parcel where it had one, or could take one
filled-some : (k : KeptSlot) → nat_lt 0 (length (filled k).queue)
    ≡ (nat_lt 0 (length k.queue) || (nat_lt 0 k.port && is_some (next_parcel k.held)))
filled-some k = elim (cases_Bool (can_move k)) [
  | inl moves ↦
      let port : suc (k.port - 1) ≡ k.port = grind (arith, nat_tests) in
      let some = rw port at (moved-some (k.port - 1) k moves) in
      grind (arith, nat_tests)
  | inr still ↦ rw (filled-quiet k still) (grind (arith, nat_tests))
]

-- whether there is a parcel after a notice
noticed-some : (number : ℕ) (k : KeptSlot) → is_some (next_parcel (noticed number k).held)
    ≡ (is_some (next_parcel k.held) || (is_ending k && not k.held.mark_out))
noticed-some number k = grind arith

-- a read gives a parcel where the queue has one
read-parcel : (k : KeptSlot) → is_parcel (read_slot k).0 ≡ nat_lt 0 (length k.queue)
read-parcel k = grind (arith, nat_tests, slice_get_cases k.queue 0)

-- a read with its turn gives one where the slot has one
read-tells : (number : ℕ) (k : KeptSlot) → is_parcel (read_turn number k).0 ≡ has_parcel k
read-tells number k =
    let keeps = noticed-keeps number k in
    read-parcel (filled (noticed number k)) ∙ (filled-some (noticed number k)
    ∙ rw (keeps.3, keeps.2, noticed-some number k))

-- the turn of a read gives one where the slot is taken and has one
turn-tells : (k : DeskState) (slot : ℕ)
    → is_parcel (kept_turn_outcome k (Take slot)).0 ≡ passes has_parcel (kept_at k slot)
turn-tells k slot =
    ap (λ (p : Answer × DeskState). is_parcel p.0) (read-events k slot) ∙ by (kept_at k slot)
  where
    by : (o : Option KeptSlot)
        → is_parcel (at_index k (slot - 1) o (read_turn k.volume.number)).0 ≡ passes has_parcel o
    by None = refl
    by (Some s) = read-tells k.volume.number s

-- what a slot's bit tells is the turn of a read
pub ready-tells : (k : DeskState) (slot word : ℕ) → 1 ≤ slot → MarksParcels k.slots word
    → (bit_at word (slot - 1) == 1) ≡ is_parcel (kept_turn_outcome k (Take slot)).0
ready-tells k slot word some marks =
    let number : (slot == 0) ≡ false = grind (arith, nat_tests) in
    rw (turn-tells k slot, number) (marks (slot - 1))

-- ---- the set of them

-- each slot that isn't in the rest is in the set if it has a parcel
abbrev pub AreAsked : List (Option KeptSlot) → ℕ → ℕ → Type 0
AreAsked ks rest set = (i : ℕ) → has set i
    ≡ (not (has rest i) && passes has_parcel (option_flatten (slice_get ks i)))

-- at first the rest has the taken slots
pub asked-none : (xs : List (Option PreparedSlot)) (taken set : ℕ) → HasTaken taken xs
    → IsEmpty (has set) → AreAsked (map kept_slot xs) taken set
asked-none xs taken set has_taken empty i = empty i ∙ by (slice_get xs i) refl
  where
    by : (o : Option (Option PreparedSlot)) → slice_get xs i ≡ o
        → false ≡ (not (has taken i)
        && passes has_parcel (option_flatten (slice_get (map kept_slot xs) i)))
    by None at = rw (slice_get-map kept_slot xs i, at) (grind arith)
    by (Some None) at = rw (slice_get-map kept_slot xs i, at) (grind arith)
    by (Some (Some x)) at = rw (has_taken i (Some x) at) refl

-- a slot of the rest is asked
pub asked-more : (ks : List (Option KeptSlot)) (rest new old set index : ℕ)
    → IsTakenOut rest index new
    → has set index ≡ passes has_parcel (option_flatten (slice_get ks index))
    → ((i : ℕ) → i ≢ index → has set i ≡ has old i) → AreAsked ks rest old
    → AreAsked ks new set
asked-more ks rest new old set index out here others all i = elim (cases_eq i index) [
  | inl same ↦ rw (same, out.gone) here
  | inr other ↦ rw (out.others i other) (others i other ∙ all i)
]

-- a free one isn't
pub asked-free : (xs : List (Option PreparedSlot)) (rest new set index : ℕ)
    → IsTakenOut rest index new → slice_get xs index ≡ Some None
    → AreAsked (map kept_slot xs) rest set → AreAsked (map kept_slot xs) new set
asked-free xs rest new set index out free all =
    asked-more (map kept_slot xs) rest new set set index out
    (all index ∙ rw (out.was, slice_get-map kept_slot xs index, free) refl) (λ i ne. refl) all

-- once all were asked, the bits of the set tell
pub asked-all : (ks : List (Option KeptSlot)) (rest set word : ℕ) → IsEmpty (has rest)
    → ((i : ℕ) → has set i ≡ (bit_at word i == 1)) → AreAsked ks rest set → MarksParcels ks word
asked-all ks rest set word empty bits all i = sym (bits i) ∙ rw (empty i) at (all i)
