-- The sizes in canonical text of names, literals and patterns, where they are read without memory.
use Rattle.std.specs.Prelude.{◌≡◌, ◌+◌, ℕ, List, [], length, Option, None, Some, Result, Ok, Err}
use Rattle.std.specs.Str.{IsUtf8, encode_utf8_all}
use Rattle.lq_value.specs.Element.{Element}
use Rattle.lq_value.specs.Item.{Item}
use Rattle.lq_value.specs.declared.literal.Literal.{Literal}
use Rattle.lq_value.specs.Sign.{SignList, signs_of}
use Rattle.lq_value.specs.Source.{First, ends, has, faulty, Pieces, whole, stuck}
use Rattle.lq_predicate_formula.specs.Canonical.{attr_then, element_then, items_then, literal_text, pattern_text}
use Rattle.lq_predicate_formula.specs.Capped.{capped}
use Rattle.lq_predicate_formula.specs.declared.source_size.FirstSize.{FirstSize}
use Rattle.lq_predicate_formula.specs.declared.source_size.FirstSize.TheVariants as sizes

abbrev pub name_bytes : List ℕ → ℕ
name_bytes name = capped (length (attr_then name []))

abbrev pub literal_bytes : Literal → ℕ
literal_bytes literal = capped (length (literal_text literal))

abbrev pub pattern_bytes : List Element → ℕ
pattern_bytes es = length (encode_utf8_all (pattern_text es))

-- the items, then the `]`
abbrev pub items_bytes : List Item → ℕ
items_bytes is = length (encode_utf8_all (items_then is []))

-- the size of a pattern that was read, or the offset of its fault
abbrev pub pattern_sized : Result (List Element) ℕ → Result ℕ ℕ
pattern_sized (Ok es) = Ok (capped (pattern_bytes es))
pattern_sized (Err offset) = Err offset

-- the size of a set's items after this many bytes, and the text after them
abbrev pub items_sized : ℕ → Pieces Item → Option (ℕ × SignList)
items_sized n (whole is rest) = Some (capped (n + items_bytes is), rest)
items_sized n (stuck rest) = None

-- the first element has this many bytes, and the rest follows it
pub record HasSize (first : First Element) (size : ℕ) (rest : List ℕ) : Type 0 where
  pub element : Element
  pub is : first ≡ has element (signs_of rest)
  pub size_is : size ≡ capped (length (encode_utf8_all (element_then element [])))
  pub text : IsUtf8 rest

abbrev pub IsSized : First Element → FirstSize → Type 0
IsSized first sizes.End = first ≡ ends []
IsSized first (sizes.Has size rest) = HasSize first size rest.now
IsSized first sizes.Faulty = first ≡ faulty
