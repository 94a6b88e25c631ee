-- When a comparison of an attribute's value with a literal is true.
use Rattle.std.specs.Prelude.{ℕ, ℤ, List, Bool, true, false, not, Option, Some, None}
use Rattle.std.specs.Cmp.Lexicographic.{slice_cmp}
use Rattle.std.specs.Ordering.{nat_cmp, int_cmp, is_lt, is_le, is_gt, is_ge, is_eq}
use Rattle.std.specs.Str.{chars}
use Rattle.std.specs.declared.cmp.Ordering.{Ordering}
use Rattle.lq_value.specs.PlainValue.{PlainValue, Words, Number}
use Rattle.lq_value.specs.declared.literal.Literal.{Literal}
use Rattle.lq_value.specs.declared.literal.Literal.TheVariants as literal
use Rattle.lq_value.specs.declared.op.Op.{Op}
use Rattle.lq_value.specs.declared.op.Op.TheVariants.{Eq, Ne, Lt, Le, Gt, Ge}
use Rattle.lq_value.specs.Number.{decimal_number}
use Rattle.lq_value.specs.Form.{pattern_number}
use Rattle.lq_value_pattern.specs.Pattern.{is_fit}

-- whether an operator accepts the order of the two sides
abbrev pub accepts : Op → Ordering → Bool
accepts Eq order = is_eq order
accepts Ne order = not (is_eq order)
accepts Lt order = is_lt order
accepts Le order = is_le order
accepts Gt order = is_gt order
accepts Ge order = is_ge order

-- a pattern follows `=`, `==` and `!=`
abbrev pub takes_pattern : Op → Bool
takes_pattern Eq = true
takes_pattern Ne = true
takes_pattern op = false

-- the operators of order take a plain text
abbrev pub suits : Literal → Op → Bool
suits (literal.Pattern elements) op = takes_pattern op
suits (literal.Plain text) op = not (takes_pattern op)

-- the whole number that a literal writes
abbrev pub literal_number : Literal → Option ℤ
literal_number (literal.Pattern elements) = pattern_number elements
literal_number (literal.Plain text) = decimal_number text

-- whether `==` or `!=` is true for a text that the pattern fits, or doesn't fit
abbrev pub fits_by : Op → Bool → Bool
fits_by Eq fit = fit
fits_by Ne fit = not fit
fits_by op fit = false

-- a text is compared with the pattern, or byte by byte
abbrev pub compares_text : List ℕ → Op → Literal → Bool
compares_text bytes op (literal.Pattern elements) = fits_by op (is_fit elements (chars bytes))
compares_text bytes op (literal.Plain text) = accepts op (slice_cmp nat_cmp bytes text)

-- a number is compared as a whole number; with a literal that writes none the answer is false
abbrev pub compares_number : ℤ → Op → Option ℤ → Bool
compares_number value op None = false
compares_number value op (Some number) = accepts op (int_cmp value number)

abbrev pub compares : PlainValue → Op → Literal → Bool
compares (Words bytes) op lit = compares_text bytes op lit
compares (Number value) op lit = compares_number value op (literal_number lit)
