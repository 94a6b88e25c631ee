-- The parameters of a formula: words among its tokens that stand for values.
use Rattle.std.specs.Prelude.{◌+◌, ◌==◌, ◌&&◌, nat_le, ℕ, ℤ, pos, List, [], ◌∷◌, ◌++◌, length, Option, Some, None, option_map, option_to_list, if◌then◌else◌}
use Rattle.lq_value.specs.Number.{decimal_number}
use Rattle.lq_value.specs.declared.op.Op.{Op}
use Rattle.lq_predicate_formula.specs.Tokens.{Placed, Token, op, word, lone, cut}
use Rattle.lq_embed.specs.declared.parameters.Parameter.{Parameter}

-- ---- one parameter

-- a number from 1 to 256
abbrev pub value_number : Option ℤ → Option ℕ
value_number (Some (pos n)) = if nat_le 1 n && nat_le n 256 then Some n else None
value_number other = None

-- the number of a value in decimal, with no 0 before it
abbrev pub number_written : List ℕ → Option ℕ
number_written [] = None
number_written (b ∷ bs) = if b == 48 then None else value_number (decimal_number (b ∷ bs))

-- the number that a raw text names, which is `$` and that number
abbrev pub number_named : List ℕ → Option ℕ
number_named [] = None
number_named (b ∷ bs) = if b == 36 then number_written bs else None

-- the parameter at an offset after an operator, if the token is a word that names a number
abbrev pub parameter_named : Op → ℕ → Token → Option Parameter
parameter_named o offset (word raw) = option_map (λ number.
    record { offset = offset; end = offset + length raw; number = number; op = o })
    (number_named raw)
parameter_named o offset t = None

-- The parameter that a token is, where it comes after this operator. It has no marks, so its raw
-- text begins where it does.
abbrev pub parameter_at : Option Op → Placed → Option Parameter
parameter_at None t = None
parameter_at (Some o) t =
    if t.raw_offset == t.offset then parameter_named o t.offset t.token else None

-- ---- those of a formula

abbrev pub operator_of : Token → Option Op
operator_of (op o) = Some o
operator_of t = None

-- the parameters among the tokens, the first of which comes after this operator, if there is one
abbrev pub parameters_after : Option Op → List Placed → List Parameter
parameters_after before [] = []
parameters_after before (t ∷ ts) =
    option_to_list (parameter_at before t) ++ parameters_after (operator_of t.token) ts

abbrev pub parameters_of : List Placed → List Parameter
parameters_of ts = parameters_after None ts

-- ---- tokens of no formula

-- the offset of the fault where a token is in no formula: `&` or `|` alone, or a quoted text or a
-- `\` that the end of the text cuts off
abbrev pub fault_of : ℕ → ℕ → Token → Option ℕ
fault_of end offset lone = Some offset
fault_of end offset cut = Some end
fault_of end offset t = None

abbrev pub or_later : Option ℕ → Option ℕ → Option ℕ
or_later None later = later
or_later (Some n) later = Some n

-- the leftmost of them
abbrev pub first_fault : ℕ → List Placed → Option ℕ
first_fault end [] = None
first_fault end (t ∷ ts) = or_later (fault_of end t.offset t.token) (first_fault end ts)
