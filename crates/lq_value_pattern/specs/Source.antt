-- The pattern of a source text, or the byte offset of its leftmost fault. A source is read from the
-- left, one element at a time, and so are the items of a set.
use Rattle.std.specs.Prelude.{ℕ, zero, suc, ◌-◌, ◌==◌, nat_le, if◌then◌else◌, Bool, true, false, List, [], ◌∷◌, length, Option, Result, Ok, Err}
use Rattle.std.specs.Option.{option_map}
use Rattle.std.specs.Result.{result_err}
use Rattle.lq_value_pattern.specs.declared.element.Item.{Item}
use Rattle.lq_value_pattern.specs.declared.element.Item.TheVariants.{One, Range}
use Rattle.lq_value_pattern.specs.declared.element.Element.{Element}
use Rattle.lq_value_pattern.specs.declared.element.Element.TheVariants.{Star, Any, Plain, Set}
use Rattle.lq_value_pattern.specs.declared.error.SourceError.{SourceError}
use Rattle.lq_value_pattern.specs.declared.error.SourceError.TheVariants.{Faulty}
use Rattle.lq_value_pattern.specs.declared.sign.Sign.{Sign}
use Rattle.lq_value_pattern.specs.declared.sign.Sign.TheVariants.{Bare, Escaped, Dangling}
use Rattle.lq_value_pattern.specs.Sign.{signs_of, signs_len}

-- what comes first: the end of the pieces, a piece, or neither; and the signs after it
pub data First (A : Type 0) : Type 0 where
  ends : List Sign → First A
  has : A → List Sign → First A
  faulty : First A

-- the pieces and the signs after their end, or the signs where they stop without an end
pub data Pieces (A : Type 0) : Type 0 where
  whole : List A → List Sign → Pieces A
  stuck : List Sign → Pieces A

-- a piece before others
abbrev pub begin : {A : Type 0} → A → Pieces A → Pieces A
begin x (whole xs rest) = whole (x ∷ xs) rest
begin x (stuck rest) = stuck rest

abbrev pub after_first : {A : Type 0} → List Sign → First A → (List Sign → Pieces A) → Pieces A
after_first ss (ends rest) others = whole [] rest
after_first ss (has x rest) others = begin x (others rest)
after_first ss faulty others = stuck ss

-- the pieces, where there are fewer than `most`
unfoldable pub pieces_within : {A : Type 0} → (List Sign → First A) → ℕ → List Sign → Pieces A
pieces_within first zero ss = stuck ss
pieces_within first (suc most) ss = after_first ss (first ss) (pieces_within first most)

-- the pieces one after another: each has at least one sign, so there are at most as many as signs
unfoldable pub pieces_of : {A : Type 0} → (List Sign → First A) → List Sign → Pieces A
pieces_of first ss = pieces_within first (suc (length ss)) ss

-- ---- the items of a set

abbrev pub is_bare : ℕ → Sign → Bool
is_bare d (Bare c) = c == d
is_bare d s = false

-- the range from one character to another, which must not fall
abbrev pub range_at : ℕ → ℕ → List Sign → First Item
range_at c d ss = if nat_le c d then has (Range c d) ss else faulty

-- a `]` ends the set, so a `-` before it, which begins `here`, makes no range
abbrev pub behind_dash : ℕ → List Sign → List Sign → First Item
behind_dash c here [] = has (One c) here
behind_dash c here (Bare d ∷ ss) = if d == 93 then has (One c) here else range_at c d ss
behind_dash c here (Escaped d ∷ ss) = range_at c d ss
behind_dash c here (Dangling ∷ ss) = faulty

-- the item that begins with a character: a range, or the character alone
abbrev pub behind_char : ℕ → List Sign → First Item
behind_char c [] = has (One c) []
behind_char c (s ∷ ss) = if is_bare 45 s then behind_dash c (s ∷ ss) ss else has (One c) (s ∷ ss)

-- the first item of a set, or the `]` that ends it
abbrev pub item_at : List Sign → First Item
item_at [] = faulty
item_at (Bare c ∷ ss) = if c == 93 then ends ss else behind_char c ss
item_at (Escaped c ∷ ss) = behind_char c ss
item_at (Dangling ∷ ss) = faulty

-- ---- the elements

-- a set has at least one item
abbrev pub set_with : Bool → Pieces Item → First Element
set_with negated (whole (i ∷ is) rest) = has (Set negated (i ∷ is)) rest
set_with negated pieces = faulty

-- the set whose `[` is just before these signs; a leading `^` negates it
abbrev pub set_at : List Sign → First Element
set_at [] = set_with false (pieces_of item_at [])
set_at (s ∷ ss) =
    if is_bare 94 s
    then set_with true (pieces_of item_at ss)
    else set_with false (pieces_of item_at (s ∷ ss))

-- the first element of a source, which ends where no sign is left
abbrev pub element_at : List Sign → First Element
element_at [] = ends []
element_at (Bare c ∷ ss) =
    if c == 42 then has Star ss
    else (if c == 63 then has Any ss
    else (if c == 91 then set_at ss
    else has (Plain c) ss))
element_at (Escaped c ∷ ss) = has (Plain c) ss
element_at (Dangling ∷ ss) = faulty

-- the elements, or the byte offset where none begins
abbrev pub elements_or_offset : List ℕ → Pieces Element → Result (List Element) ℕ
elements_or_offset text (whole es rest) = Ok es
elements_or_offset text (stuck rest) = Err (length text - signs_len rest)

-- the pattern of a source text, or the byte offset of its leftmost fault
abbrev pub pattern_of : List ℕ → Result (List Element) ℕ
pattern_of text = elements_or_offset text (pieces_of element_at (signs_of text))

-- why a source is refused
abbrev pub source_error : List ℕ → Option SourceError
source_error text = option_map (λ offset. Faulty offset) (result_err (pattern_of text))
