-- Names of attributes and literals, from their raw texts.
use Rattle.std.specs.Prelude.{ℕ, ◌==◌, not, is_some, if◌then◌else◌, Bool, true, false, List, [], ◌∷◌, Option, Some, None, Result, Ok, Err}
use Rattle.std.specs.List.{list_all}
use Rattle.std.specs.Option.{option_map}
use Rattle.std.specs.Result.{result_err}
use Rattle.lq_value.specs.declared.refusal.Refusal.{Refusal}
use Rattle.lq_value.specs.declared.refusal.Refusal.TheVariants.{BadName, BadQuery}
use Rattle.lq_value.specs.declared.op.Op.{Op}
use Rattle.lq_value.specs.Compare.{takes_pattern}
use Rattle.lq_value.specs.Element.{Element}
use Rattle.lq_value.specs.declared.literal.Literal.{Literal}
use Rattle.lq_value.specs.declared.literal.Literal.TheVariants.{Pattern, Plain}
use Rattle.lq_value.specs.Name.{is_attr_name}
use Rattle.lq_value.specs.Source.{pattern_of}

-- The text without the `\` before each escaped byte; the flag says that a `\` was before it. The
-- other bytes of an escaped character are never `\`.
abbrev pub unescaped : Bool → List ℕ → List ℕ
unescaped false [] = []
unescaped true [] = []
unescaped false (b ∷ bs) = if b == 92 then unescaped true bs else b ∷ unescaped false bs
unescaped true (b ∷ bs) = b ∷ unescaped false bs

abbrev pub has_no_nul : List ℕ → Bool
has_no_nul bytes = list_all (λ b. not (b == 0)) bytes

-- the attribute's name in a raw text
abbrev pub name_of : List ℕ → Option (List ℕ)
name_of raw = if is_attr_name (unescaped false raw) then Some (unescaped false raw) else None

-- why a raw text is refused as an attribute's name
abbrev pub name_refusal : List ℕ → Option Refusal
name_refusal raw = if is_some (name_of raw) then None else Some BadName

abbrev pub pattern_literal : Result (List Element) ℕ → Option Literal
pattern_literal (Ok elements) = Some (Pattern elements)
pattern_literal (Err offset) = None

-- the literal that a raw text writes after an operator
abbrev pub literal_of : Op → List ℕ → Option Literal
literal_of o raw =
    if takes_pattern o then pattern_literal (pattern_of raw) else Some (Plain (unescaped false raw))

-- the offset in a literal's raw text of its pattern's fault
abbrev pub literal_fault : Op → List ℕ → Option ℕ
literal_fault o raw = if takes_pattern o then result_err (pattern_of raw) else None

-- why a raw text is refused as a literal after an operator
abbrev pub literal_refusal : Op → List ℕ → Option Refusal
literal_refusal o raw = option_map (λ offset. BadQuery offset) (literal_fault o raw)
