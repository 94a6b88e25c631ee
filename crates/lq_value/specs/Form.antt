-- How a pattern stores its elements, and the number that they write.
use Rattle.std.specs.Prelude.{◌≡◌, ℤ, List, Option, None, option_and_then}
use Rattle.std.specs.Str.{chars, encode_utf8_all}
use Rattle.std.specs.String.{string_bytes}
use Rattle.lq_value.specs.Number.{decimal_number}
use Rattle.lq_value.specs.declared.pattern.Form.{Form}
use Rattle.lq_value.specs.declared.pattern.Form.TheVariants.{PlainText, StarredText, Elements}
use Rattle.lq_value_pattern.specs.Pattern.{plain_chars, plain_elements, starred_elements}
use Rattle.lq_value_pattern.specs.declared.element.Element.{Element}

-- the whole number that a pattern writes, if all its elements are plain and their text writes one
abbrev pub pattern_number : List Element → Option ℤ
pattern_number es = option_and_then (λ cs. decimal_number (encode_utf8_all cs)) (plain_chars es)

-- the elements that a form stores
abbrev pub elements_of : Form → List Element
elements_of (PlainText text number) = plain_elements (chars (string_bytes text))
elements_of (StarredText elements starred) = elements.items
elements_of (Elements elements) = elements.items

-- A form is a text exactly where all elements are plain, and it stores the number that they write.
-- A form with stars stores elements that are these stars and its text.
abbrev pub IsTextIfPlain : Form → Type 0
IsTextIfPlain (PlainText text number) =
    number ≡ pattern_number (plain_elements (chars (string_bytes text)))
IsTextIfPlain (StarredText elements starred) =
    (plain_chars elements.items ≡ None) × (starred_elements starred ≡ elements.items)
IsTextIfPlain (Elements elements) = plain_chars elements.items ≡ None
