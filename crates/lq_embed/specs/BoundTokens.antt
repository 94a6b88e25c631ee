-- The tokens of a formula with its values in place.
use Rattle.std.specs.Prelude.{◌≡◌, ◌-◌, ℕ, List, [], ◌∷◌, length, Option, Some, None, slice_get}
use Rattle.std.specs.Fmt.{decimal, signed_decimal}
use Rattle.lq_value.specs.declared.op.Op.{Op}
use Rattle.lq_value.specs.declared.value.Value.{Value}
use Rattle.lq_value.specs.declared.value.Value.TheVariants.{Text, Int32, Int64, UInt32, UInt64}
use Rattle.lq_predicate_formula.specs.Tokens.{HasTokens, Placed, Token, bare, word}
use Rattle.lq_embed.specs.declared.parameters.Parameter.{Parameter}
use Rattle.lq_embed.specs.BoundFormula.{first_missing, with_values}
use Rattle.lq_embed.specs.Parameters.{first_fault, operator_of, parameter_at, parameters_of}
use Rattle.lq_embed.specs.Quoting.{escaped_for}

-- the raw text of a value's literal after an operator
abbrev pub raw_for : Op → Value → List ℕ
raw_for o (Text text) = escaped_for o text
raw_for o (Int32 n) = signed_decimal n
raw_for o (Int64 n) = signed_decimal n
raw_for o (UInt32 n) = decimal n
raw_for o (UInt64 n) = decimal n

-- the word of a value, or a token where there is none
abbrev pub value_word : Token → Op → Option Value → Token
value_word t o None = t
value_word t o (Some value) = word (raw_for o value)

-- the token that comes in place of a token, which may be a parameter
abbrev pub token_for : List Value → Token → Option Parameter → Token
token_for values t None = t
token_for values t (Some p) = value_word t p.op (slice_get values (p.number - 1))

-- the tokens with the words of the values in place of the parameters, the first after this operator
abbrev pub tokens_with : List Value → Option Op → List Placed → List Token
tokens_with values before [] = []
tokens_with values before (t ∷ ts) = token_for values t.token (parameter_at before t)
    ∷ tokens_with values (operator_of t.token) ts

-- A formula with its values in place has its own tokens, with the word of its value in place of
-- each parameter, and no others.
abbrev pub BoundIsRead : Type 0
BoundIsRead = (values : List Value) (formula : List ℕ) (ts us : List Placed)
    → HasTokens 0 formula ts → first_fault (length formula) ts ≡ None
    → first_missing (length values) (parameters_of ts) ≡ None
    → HasTokens 0 (with_values values formula ts) us → bare us ≡ tokens_with values None ts
