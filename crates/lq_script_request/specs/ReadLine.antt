-- The line that asks for a read of a slot, written as most programs write it.
use Rattle.std.specs.Prelude.{ℕ, List, ◌++◌, codes, decimal}

-- the line without spaces, as `{"do":"read","slot":7}`
abbrev pub read_line : ℕ → List ℕ
read_line slot = codes "{\"do\":\"read\",\"slot\":" ++ (decimal slot ++ codes "}")
