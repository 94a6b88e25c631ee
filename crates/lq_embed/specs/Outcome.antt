-- The outcome of a call as its status, and what is there afterwards.
use Rattle.std.specs.Prelude.{◌≡◌, ◌⊎◌, ℕ, Result, Ok, Err}

-- Status 0 and what the outcome is, or a number and what was there before. For want of memory it is
-- 15, whatever the outcome.
abbrev pub Gives : {T : Type 0} → Result T ℕ → T → T → ℕ → Type 0
Gives (Ok after) old new status = ((status ≡ 0) × (new ≡ after)) ⊎ ((status ≡ 15) × (new ≡ old))
Gives (Err code) old new status = ((status ≡ code) ⊎ (status ≡ 15)) × (new ≡ old)
