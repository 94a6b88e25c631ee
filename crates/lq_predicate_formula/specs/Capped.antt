-- A number as a usize holds it: the greatest usize for each number above it.
use Rattle.std.specs.Prelude.{◌≡◌, ◌≤◌, ◌+◌, ◌++◌, ℕ, ◌-◌, ◌^◌, min, List, [], length}
use Rattle.std.proofs.Common.{arith, length-append}

abbrev pub capped : ℕ → ℕ
capped n = min n (2 ^ 64 - 1)

-- the number of bytes after further bytes
abbrev pub capped_after : ℕ → List ℕ → ℕ
capped_after n bytes = capped (n + length bytes)

-- bytes that are counted in two parts are counted as one
pub capped_joined : (n : ℕ) (x y : List ℕ) → capped_after (capped_after n x) y
    ≡ capped_after n (x ++ y)
capped_joined n x y = let both = length-append x y in omega (arith, both)

-- no bytes add nothing to a count
pub capped_nothing : (n : ℕ) → n ≤ 2 ^ 64 - 1 → capped_after n [] ≡ n
capped_nothing n bound = omega (arith, bound)
