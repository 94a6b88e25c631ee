-- Visits of the taken slots of a set.
use Rattle.std.specs.Prelude.{◌≡◌, ℕ, List, Bool, true, false, Option, Some, slice_get}

-- Each taken slot of the set was visited. Any other slot is as it was, and may be visited where it
-- might be before.
pub record Visits {T S : Type 0} (allows : S → ℕ → T → Type 0) (did : S → ℕ → T → T → Type 0)
    (in_set : ℕ → Bool) (xs ys : List (Option T)) (s t : S) : Type 0 where
  pub visited : (i : ℕ) (x : T) → in_set i ≡ true → slice_get xs i ≡ Some (Some x)
      → (y : T) × (slice_get ys i ≡ Some (Some y)) × did t i x y
  pub left : (i : ℕ) → ((x : T) → slice_get xs i ≡ Some (Some x) → in_set i ≡ false)
      → slice_get ys i ≡ slice_get xs i
  pub allowed : (i : ℕ) (x : T) → ((z : T) → slice_get xs i ≡ Some (Some z) → in_set i ≡ false)
      → allows s i x → allows t i x
