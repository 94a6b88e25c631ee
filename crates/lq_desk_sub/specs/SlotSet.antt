-- Sets of slots, by their indexes.
use Rattle.std.specs.Prelude.{◌≡◌, ◌≢◌, ◌<◌, ℕ, Bool, true, false, ◌==◌, ◌&&◌, nat_lt}
use Rattle.std.specs.Int.{bit_at}

-- whether the set with this word has an index
unfoldable pub has : ℕ → ℕ → Bool
has word i = nat_lt i 64 && (bit_at word i == 1)

-- no index is in the set
abbrev pub IsEmpty : (ℕ → Bool) → Type 0
IsEmpty in_set = (i : ℕ) → in_set i ≡ false

-- an index was taken out, and the others stay
pub record IsTakenOut (old index new : ℕ) : Type 0 where
  pub was : has old index ≡ true
  pub gone : has new index ≡ false
  pub others : (i : ℕ) → i ≢ index → has new i ≡ has old i
  pub fewer : new < old
