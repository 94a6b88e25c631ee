-- A value as a literal of a formula.
use Rattle.std.specs.Prelude.{ℕ, List, [], ◌∷◌, ◌++◌, Bool, ◌==◌, ◌||◌, ◌&&◌, if◌then◌else◌}
use Rattle.std.specs.Fmt.{decimal, signed_decimal}
use Rattle.lq_value.specs.Compare.{takes_pattern}
use Rattle.lq_value.specs.declared.op.Op.{Op}
use Rattle.lq_value.specs.declared.value.Value.{Value}
use Rattle.lq_value.specs.declared.value.Value.TheVariants.{Text, Int32, Int64, UInt32, UInt64}

-- whether a byte has a meaning of its own between `"` marks: `\` and `"`, and in a pattern `*`, `?`
-- and `[`
abbrev pub has_meaning : Op → ℕ → Bool
has_meaning o b = b == 92 || b == 34 || (takes_pattern o && (b == 42 || b == 63 || b == 91))

-- the text with `\` before each such byte
abbrev pub escaped_for : Op → List ℕ → List ℕ
escaped_for o [] = []
escaped_for o (b ∷ bs) =
    if has_meaning o b then 92 ∷ b ∷ escaped_for o bs else b ∷ escaped_for o bs

-- the literal that means just this text after the operator
abbrev pub quoted_for : Op → List ℕ → List ℕ
quoted_for o text = 34 ∷ (escaped_for o text ++ 34 ∷ [])

-- the literal of a value after the operator: of a number its decimal text
abbrev pub literal_for : Op → Value → List ℕ
literal_for o (Text text) = quoted_for o text
literal_for o (Int32 n) = signed_decimal n
literal_for o (Int64 n) = signed_decimal n
literal_for o (UInt32 n) = decimal n
literal_for o (UInt64 n) = decimal n
