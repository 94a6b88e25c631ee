-- The bytes that stand for themselves in a JSON text.
use Rattle.std.specs.Prelude.{ℕ, Bool, not, ◌||◌, ◌==◌, nat_lt}

-- whether the byte is no control character, quote or backslash
abbrev pub needs_no_escape : ℕ → Bool
needs_no_escape x = not (nat_lt x 32 || (x == 34 || x == 92))
