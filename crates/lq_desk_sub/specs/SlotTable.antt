-- Tables of 64 slots.
use Rattle.std.specs.Prelude.{◌≡◌, ◌+◌, ℕ, List, [], ◌∷◌, Option, Some, None, is_some, length, slice_get}
use Rattle.lq_desk_sub.specs.SlotSet.{has}

-- a set has the taken slots, and no free one
abbrev pub HasTaken : {T : Type 0} → ℕ → List (Option T) → Type 0
HasTaken {T} taken slots = (i : ℕ) (o : Option T) → slice_get slots i ≡ Some o
    → has taken i ≡ is_some o

-- 64 slots, with the set of the taken ones
pub record IsTable {T : Type 0} (taken : ℕ) (slots : List (Option T)) : Type 0 where
  pub wide : length slots ≡ 64
  pub has_taken : HasTaken taken slots

-- the index of the first free slot, or the number of slots
abbrev pub first_free : {T : Type 0} → List (Option T) → ℕ
first_free [] = 0
first_free (None ∷ slots) = 0
first_free (Some x ∷ slots) = first_free slots + 1
