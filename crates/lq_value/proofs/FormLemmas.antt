-- What patterns say: by their test, and as the number that plain elements write.
use Rattle.std.proofs.Common.{◌≡◌, ℕ, List, [], ◌∷◌, refl, ap, Some, sym, ◌∙◌, Bool}
use Rattle.std.specs.Option.{option_map}
use Rattle.std.specs.Prelude.{◌↔◌, IsTrue}
use Rattle.std.specs.Str.{chars, IsUtf8}
use Rattle.std.proofs.lemmas.Str.{encodes-chars}
use Rattle.lq_value.specs.Form.{pattern_number}
use Rattle.lq_value.specs.Number.{decimal_number}
use Rattle.lq_value_pattern.specs.Laws.{FitsAreSplits}
use Rattle.lq_value_pattern.specs.Pattern.{Fits, is_fit, plain_chars, plain_elements}
use Rattle.lq_value_pattern.specs.declared.element.Element.{Element}

-- an answer that is the test says whether the pattern fits
pub fits_tells : (b : Bool) (es : List Element) (cs : List ℕ) → FitsAreSplits → b ≡ is_fit es cs
    → IsTrue b ↔ Fits es cs
fits_tells b es cs law e = (λ h. (law es cs).0 (sym e ∙ h), λ h. e ∙ (law es cs).1 h)

-- plain elements have their characters
pub plain_chars-plain : (cs : List ℕ) → plain_chars (plain_elements cs) ≡ Some cs
plain_chars-plain [] = refl
plain_chars-plain (c ∷ cs) = ap (option_map (λ ds. c ∷ ds)) (plain_chars-plain cs)

-- a pattern of plain characters has the number of their text
pub number-plain : (bs : List ℕ) → IsUtf8 bs
    → pattern_number (plain_elements (chars bs)) ≡ decimal_number bs
number-plain bs u = rw (plain_chars-plain (chars bs)) (ap decimal_number (encodes-chars bs u))
