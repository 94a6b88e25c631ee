-- The slots of a desk, as contracts see them.
use Rattle.std.proofs.Common.{◌≡◌, ℕ, zero, suc, ◌+◌, ◌-◌, ◌≤◌, ◌<◌, List, [], ◌∷◌, refl, ap, map, length, ◌∙◌, sym, arith, Some, None, Option, false, true, inl, inr}
use Rattle.std.specs.Prelude.{slice_get, slice_set, ◌⊎◌, ◌==◌}
use Rattle.std.specs.Option.{option_map, option_flatten}
use Rattle.std.proofs.lemmas.Bool.{or_parts}
use Rattle.std.proofs.lemmas.Bool.Decides.{nat_tests}
use Rattle.std.proofs.lemmas.List.{map-set, set_past}
use Rattle.std.proofs.lemmas.Option.{slice_get-map, slice_get_past}
use Rattle.lq_value.specs.declared.refusal.Refusal.TheVariants.{NotOpen}
use Rattle.lq_desk_world.specs.Events.{Answer, Refused}
use Rattle.lq_desk.specs.Slot.{KeptSlot, PreparedSlot, slot_of, committed_slot, filled, has_work, is_ending, can_move, read_slot}
use Rattle.lq_desk.specs.Act.{outcome_of, read_turn}
use Rattle.lq_desk.proofs.PutLemmas.{filled-quiet, noticed-quiet}

-- what is kept of what may be in a slot
abbrev pub kept_slot : Option PreparedSlot → Option KeptSlot
kept_slot = option_map slot_of

-- what stands at a place is kept there
pub kept-there : (xs : List (Option PreparedSlot)) (i : ℕ) (x : PreparedSlot)
    → slice_get xs i ≡ Some (Some x) → slice_get (map kept_slot xs) i ≡ Some (Some (slot_of x))
kept-there xs i x found = slice_get-map kept_slot xs i ∙ ap (option_map kept_slot) found

-- a slot that is read as taken is in the list
pub taken-there : {A : Type 0} (xs : List (Option A)) (i : ℕ) (x : A)
    → Some x ≡ option_flatten (slice_get xs i) → slice_get xs i ≡ Some (Some x)
taken-there {A} xs i x is = by (slice_get xs i) is
  where
    by : (o : Option (Option A)) → Some x ≡ option_flatten o → o ≡ Some (Some x)
    by None there = cc
    by (Some None) there = cc
    by (Some (Some y)) there = cc

-- what is kept of a slot that is read
kept-at : (xs : List (Option PreparedSlot)) (i : ℕ) (o : Option PreparedSlot)
    → o ≡ option_flatten (slice_get xs i)
    → option_flatten (slice_get (map kept_slot xs) i) ≡ kept_slot o
kept-at xs i o is = ap option_flatten (slice_get-map kept_slot xs i)
    ∙ (by (slice_get xs i) ∙ ap kept_slot (sym is))
  where
    by : (o : Option (Option PreparedSlot))
        → option_flatten (option_map kept_slot o) ≡ kept_slot (option_flatten o)
    by None = refl
    by (Some o) = refl

-- ---- what is done at a slot, by its number

-- where no subscription is, writing none leaves the slots
pub set-free : (ks : List (Option KeptSlot)) (i : ℕ) → option_flatten (slice_get ks i) ≡ None
    → slice_set ks i None ≡ ks
set-free [] i is = refl
set-free (k ∷ ks) zero is = ap (λ j. j ∷ ks) (sym is)
set-free (k ∷ ks) (suc i) is = ap (λ js. k ∷ js) (set-free ks i is)

-- what is done at a taken slot, in the slots as they were seen before
pub done-at : (does : KeptSlot → Answer × Option KeptSlot) (xs zs : List (Option PreparedSlot))
    (slot i : ℕ) (x : PreparedSlot) (o : Option PreparedSlot) (r : Answer) → xs ≡ zs
    → i + 1 ≡ slot → Some x ≡ option_flatten (slice_get xs i) → (r, kept_slot o) ≡ does (slot_of x)
    → (r, map kept_slot (slice_set xs i o)) ≡ outcome_of does (map kept_slot zs) slot
done-at does xs zs slot i x o r view number there did =
    let some : (slot == 0) ≡ false = grind (arith, nat_tests) in
    let index : slot - 1 ≡ i = omega (arith, number) in
    rw (← view, some, index, kept-at xs i (Some x) there, map-set kept_slot xs i o)
    (ap (λ (p : Answer × Option KeptSlot). (p.0, slice_set (map kept_slot xs) i p.1)) did)

-- a free slot refuses it
pub refused-at : (does : KeptSlot → Answer × Option KeptSlot) (xs zs : List (Option PreparedSlot))
    (slot i : ℕ) → xs ≡ zs → i + 1 ≡ slot → None ≡ option_flatten (slice_get xs i)
    → (Refused NotOpen, map kept_slot xs) ≡ outcome_of does (map kept_slot zs) slot
refused-at does xs zs slot i view number there =
    let some : (slot == 0) ≡ false = grind (arith, nat_tests) in
    let index : slot - 1 ≡ i = omega (arith, number) in
    let free = kept-at xs i None there in
    rw (← view, some, index, free, set-free (map kept_slot xs) i free) refl

-- what is done at a number that no slot has is refused
pub refused-past : (does : KeptSlot → Answer × Option KeptSlot) (ks : List (Option KeptSlot))
    (slot : ℕ) → length ks ≡ 64 → (slot ≡ 0) ⊎ (64 < slot)
    → (Refused NotOpen, ks) ≡ outcome_of does ks slot
refused-past does ks slot wide (inl none) = rw none refl
refused-past does ks slot wide (inr past) =
    let after : length ks ≤ slot - 1 = omega (arith, wide, past) in
    rw (slice_get_past ks (slot - 1) after, set_past ks (slot - 1) None after) (grind arith)

-- ---- slots with nothing to do

-- where there is no work, a read with its turn is a read
pub read-quiet : (n : ℕ) (k : KeptSlot) → has_work k ≡ false → read_slot k ≡ read_turn n k
read-quiet n k none =
    let parts = or_parts (is_ending k) (can_move k) none in
    ap read_slot (sym (ap filled (noticed-quiet n k parts.0) ∙ filled-quiet k parts.1))

-- telling messages makes no slot ending
pub committed-ends : (p : PreparedSlot) → is_ending (slot_of (committed_slot p)) ≡ true
    → is_ending (slot_of p) ≡ true
committed-ends p is = grind arith
