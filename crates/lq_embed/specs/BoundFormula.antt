-- The formula with its values in place, and why it has none.
use Rattle.std.specs.Prelude.{◌≡◌, ◌⊎◌, ◌+◌, ◌-◌, ◌==◌, ℕ, List, [], ◌∷◌, ◌++◌, length, take, drop, nat_le, nat_lt, Bool, Option, Some, None, option_map, Result, Ok, Err, slice_get, if◌then◌else◌}
use Rattle.std.specs.List.{list_any}
use Rattle.std.specs.Str.{is_utf8}
use Rattle.lq_value.specs.declared.refusal.Refusal.TheVariants.{BadQuery, NoMemory, NotUtf8}
use Rattle.lq_value.specs.declared.value.Value.{Value}
use Rattle.lq_predicate_formula.specs.Tokens.{HasTokens, Placed}
use Rattle.lq_embed.specs.declared.bound_formula.Unbound.{Unbound}
use Rattle.lq_embed.specs.declared.bound_formula.Unbound.TheVariants.{NoValue, Refused, UnusedValue}
use Rattle.lq_embed.specs.declared.parameters.Parameter.{Parameter}
use Rattle.lq_embed.specs.Parameters.{first_fault, parameters_of}
use Rattle.lq_embed.specs.Quoting.{literal_for}

-- ---- the text

-- the bytes of a text from one offset up to another
abbrev pub between : List ℕ → ℕ → ℕ → List ℕ
between bytes from to = take (to - from) (drop from bytes)

-- the literal of the value that a parameter stands for
abbrev pub literal_or_none : Option Value → Parameter → List ℕ
literal_or_none None p = []
literal_or_none (Some value) p = literal_for p.op value

abbrev pub literal_at : List Value → Parameter → List ℕ
literal_at values p = literal_or_none (slice_get values (p.number - 1)) p

-- the bytes of a formula from an offset on, where each of these parameters is replaced by the
-- literal of its value
abbrev pub replaced_from : List Value → List ℕ → ℕ → List Parameter → List ℕ
replaced_from values formula at [] = between formula at (length formula)
replaced_from values formula at (p ∷ ps) =
    between formula at p.offset ++ (literal_at values p ++ replaced_from values formula p.end ps)

-- the formula with these tokens, where each parameter is replaced by the literal of its value
abbrev pub with_values : List Value → List ℕ → List Placed → List ℕ
with_values values formula ts = replaced_from values formula 0 (parameters_of ts)

-- ---- why there is none

-- the number of the leftmost parameter that has none of this many values
abbrev pub first_missing : ℕ → List Parameter → Option ℕ
first_missing count [] = None
first_missing count (p ∷ ps) =
    if nat_lt count p.number then Some p.number else first_missing count ps

abbrev pub has_parameter : List Parameter → ℕ → Bool
has_parameter ps number = list_any (λ p. p.number == number) ps

-- the first number, of the values from this number on, that no parameter has
abbrev pub first_unused : List Parameter → ℕ → List Value → Option ℕ
first_unused ps number [] = None
first_unused ps number (value ∷ values) =
    if has_parameter ps number then first_unused ps (number + 1) values else Some number

-- the first of some refusals that is there
abbrev pub first_unbound : List (Option Unbound) → Option Unbound
first_unbound [] = None
first_unbound (Some refusal ∷ refusals) = Some refusal
first_unbound (None ∷ refusals) = first_unbound refusals

-- why values can't be put in place, in order
abbrev pub unbound_refusals : List Value → List ℕ → List Placed → List (Option Unbound)
unbound_refusals values formula ts =
    (if is_utf8 formula then None else Some (Refused NotUtf8))
    ∷ (if nat_le (length formula) 4096 then None else Some (Refused (BadQuery 4096)))
    ∷ option_map (λ offset. Refused (BadQuery offset)) (first_fault (length formula) ts)
    ∷ option_map (λ number. NoValue number) (first_missing (length values) (parameters_of ts))
    ∷ option_map (λ number. UnusedValue number) (first_unused (parameters_of ts) 1 values)
    ∷ []

abbrev pub unless_unbound : Option Unbound → List ℕ → Result (List ℕ) Unbound
unless_unbound None text = Ok text
unless_unbound (Some refusal) text = Err refusal

-- the formula with its values in place, or the first refusal that fits
abbrev pub bound_formula : List Value → List ℕ → List Placed → Result (List ℕ) Unbound
bound_formula values formula ts =
    unless_unbound (first_unbound (unbound_refusals values formula ts))
    (with_values values formula ts)

-- the outcome is that of the formula's tokens, or memory ran out
pub record Binds (values : List Value) (formula : List ℕ) (outcome : Result (List ℕ) Unbound) :
    Type 0 where
  pub tokens : List Placed
  pub has : HasTokens 0 formula tokens
  pub is : (outcome ≡ bound_formula values formula tokens) ⊎ (outcome ≡ Err (Refused NoMemory))
