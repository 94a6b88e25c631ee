-- What several works give.
use Rattle.std.specs.Prelude.{◌≡◌, ℕ, ◌<◌, List, length, slice_index_or}

-- one result for each work, in order
pub record AllGive {W X : Type 0} (Gives : W → X → Type 0) (works : List W)
    (results : List X) : Type 0 where
  pub number : length results ≡ length works
  pub each : (k : ℕ) (w : W) (x : X) → k < length works
      → Gives (slice_index_or works k w) (slice_index_or results k x)
