-- How single elements are sought at many places of a text at once: a flag for each index says
-- whether the elements so far have taken the characters from there on.
use Rattle.std.specs.Prelude.{◌≡◌, ◌<◌, ◌≤◌, ◌+◌, ℕ, List, [], ◌∷◌, ◌++◌, Bool, true, false, ◌&&◌, ◌==◌, nat_lt, not, if◌then◌else◌, length, drop, slice_index}
use Rattle.lq_value_pattern.specs.declared.element.Element.{Element}
use Rattle.lq_value_pattern.specs.declared.element.Element.TheVariants as element
use Rattle.lq_value_pattern.specs.declared.element.Item.{Item}
use Rattle.lq_value_pattern.specs.declared.element_runs.Light.{Light}
use Rattle.lq_value_pattern.specs.declared.element_runs.Light.TheVariants.{Any, Plain, OneItem}
use Rattle.lq_value_pattern.specs.Element.{has, set_has, takes}
use Rattle.lq_value_pattern.specs.Matching.{AreSingle, IsAtStar}

-- the elements take the text's first characters, one each
abbrev pub take_front : List Element → List ℕ → Bool
take_front [] cs = true
take_front (e ∷ es) [] = false
take_front (e ∷ es) (c ∷ cs) = takes e c && take_front es cs

-- a flag that stays or is cleared
abbrev pub kept : Bool → ℕ → ℕ
kept true flag = flag
kept false flag = 0

-- whether a set with these items takes the character
abbrev pub set_takes : Bool → List Item → ℕ → Bool
set_takes negated items c = if negated then not (set_has items c) else set_has items c

-- whether a set with one item does
abbrev pub item_takes : Bool → Item → ℕ → Bool
item_takes negated item c = if negated then not (has item c) else has item c

-- whether an element that is tried by itself does
abbrev pub light_takes : Light → ℕ → Bool
light_takes Any c = true
light_takes (Plain d) c = d == c
light_takes (OneItem negated item) c = item_takes negated item c

-- the only element takes the same characters
pub record IsLight (light : Light) (es : List Element) : Type 0 where
  pub e : Element
  pub only : es ≡ e ∷ []
  pub same : (c : ℕ) → light_takes light c ≡ takes e c

-- the flags stay where the test passes for the text's character, and are cleared elsewhere
abbrev pub AreKept : (ℕ → Bool) → List ℕ → List ℕ → List ℕ → Type 0
AreKept test cs old new = (k : ℕ) → k < length old
    → slice_index new k ≡ kept (test (slice_index cs k)) (slice_index old k)

-- the flags stay where the elements take the characters from the flag's index on
abbrev pub AreKeptBy : List Element → List ℕ → List ℕ → List ℕ → Type 0
AreKeptBy es cs old new = (k : ℕ) → k < length old
    → slice_index new k ≡ kept (take_front es (drop k cs)) (slice_index old k)

-- every flag is set
abbrev pub AreOn : List ℕ → Type 0
AreOn flags = (k : ℕ) → k < length flags → slice_index flags k ≡ 1

-- an index's flag is set exactly where the elements take the characters from that index on
abbrev pub AreFlags : List Element → List ℕ → List ℕ → Type 0
AreFlags es cs flags = (k : ℕ) → k < length flags
    → slice_index flags k ≡ kept (take_front es (drop k cs)) 1

-- no flag from one index up to another is set
abbrev pub AreOff : List ℕ → ℕ → ℕ → Type 0
AreOff flags from to = (k : ℕ) → from ≤ k → k < to → slice_index flags k ≡ 0

-- the first set flag from an index on, or the number of flags
pub record IsNextOn (flags : List ℕ) (from next : ℕ) : Type 0 where
  pub within : next ≤ length flags
  pub behind : from ≤ next
  pub off : AreOff flags from next
  pub on : next < length flags → slice_index flags next ≡ 0 → ⊥

-- at no index before this one do the elements take the characters
abbrev pub TakeNoneBefore : List Element → List ℕ → ℕ → Type 0
TakeNoneBefore es cs end = (q : ℕ) → q < end → take_front es (drop q cs) ≡ false

-- the first index at which the elements take the characters
pub record IsFirstIndex (es : List Element) (cs : List ℕ) (index : ℕ) : Type 0 where
  pub within : index + length es ≤ length cs
  pub taken : take_front es (drop index cs) ≡ true
  pub first : TakeNoneBefore es cs index

-- the same, before an end
pub record IsFirstIndexBefore (es : List Element) (cs : List ℕ) (end index : ℕ) : Type 0 where
  pub before : index < end
  pub is : IsFirstIndex es cs index

-- no index that has room for the elements takes them
abbrev pub TakeNowhere : List Element → List ℕ → Type 0
TakeNowhere es cs = (q : ℕ) → q + length es ≤ length cs → take_front es (drop q cs) ≡ false

-- elements up to a star or to the end, none of which is a star, and the others
pub record IsPiece (es piece after : List Element) : Type 0 where
  pub elements : es ≡ piece ++ after
  pub single : AreSingle piece
  pub star : IsAtStar after

-- a set of many items
abbrev pub is_large : Element → Bool
is_large (element.Set negated items) = nat_lt 16 (length items)
is_large e = false
