-- What the reader of sources has read, and what part of it had memory.
use Rattle.std.specs.Prelude.{◌≡◌, ℕ, List, [], ◌∷◌, ◌++◌, Result, Ok, Err}
use Rattle.std.specs.Str.{IsUtf8}
use Rattle.std.specs.Global.{Vec}
use Rattle.lq_value_pattern.specs.declared.element.Item.{Item}
use Rattle.lq_value_pattern.specs.declared.element.Element.{Element}
use Rattle.lq_value_pattern.specs.declared.error.SourceError.{SourceError}
use Rattle.lq_value_pattern.specs.declared.error.SourceError.TheVariants.{NoMemory}
use Rattle.lq_value_pattern.specs.declared.set.FirstItem.{FirstItem}
use Rattle.lq_value_pattern.specs.declared.set.FirstItem.TheVariants as first_item
use Rattle.lq_value_pattern.specs.declared.sign.Sign.{Sign}
use Rattle.lq_value_pattern.specs.Sign.{signs_of}
use Rattle.lq_value_pattern.specs.declared.source.FirstElement.{FirstElement}
use Rattle.lq_value_pattern.specs.declared.source.FirstElement.TheVariants as first_element
use Rattle.lq_value_pattern.specs.Source.{First, ends, has, faulty, Pieces, whole, stuck, item_at, pieces_of}

abbrev pub first_item_of : FirstItem → First Item
first_item_of (first_item.End rest) = ends (signs_of rest.now)
first_item_of (first_item.Has item rest) = has item (signs_of rest.now)
first_item_of first_item.Faulty = faulty

-- the rest is a text
abbrev pub IsTextBehindItem : FirstItem → Type 0
IsTextBehindItem (first_item.End rest) = IsUtf8 rest.now
IsTextBehindItem (first_item.Has item rest) = IsUtf8 rest.now
IsTextBehindItem first_item.Faulty = Unit {0}

abbrev pub IsStuck : {A : Type 0} → Pieces A → Type 0
IsStuck (whole xs rest) = ⊥
IsStuck (stuck rest) = Unit {0}

-- one more item, or no memory for it or for an earlier one
abbrev pub IsWithItem : Result (List Item) SourceError → Item
    → Result (List Item) SourceError → Type 0
IsWithItem (Ok items) item (Ok more) = more ≡ items ++ item ∷ []
IsWithItem (Err e) item (Ok more) = ⊥
IsWithItem (Ok items) item (Err e) = e ≡ NoMemory
IsWithItem (Err e) item (Err e') = e' ≡ e

-- the items, or no memory for them; then there is at least one
abbrev pub AreGathered : List Item → Result (List Item) SourceError → Type 0
AreGathered items (Ok gathered) = gathered ≡ items
AreGathered items (Err e) = (e ≡ NoMemory) × (items ≡ [] → ⊥)

-- the items of the set, and the rest after it
pub record ReadsItems (ss : List Sign) (gathered : Result (List Item) SourceError)
    (rest : List Sign) : Type 0 where
  pub items : List Item
  pub pieces : pieces_of item_at ss ≡ whole items rest
  pub are : AreGathered items gathered

-- the element, or no memory for it
abbrev pub IsFound : Element → Result Element SourceError → Type 0
IsFound element (Ok found) = found ≡ element
IsFound element (Err e) = e ≡ NoMemory

-- the first element, and the rest after it
pub record HasElement (first : First Element) (found : Result Element SourceError)
    (rest : List ℕ) : Type 0 where
  pub element : Element
  pub is : first ≡ has element (signs_of rest)
  pub kept : IsFound element found
  pub text : IsUtf8 rest

abbrev pub IsFirstRead : First Element → FirstElement → Type 0
IsFirstRead first first_element.End = first ≡ ends []
IsFirstRead first (first_element.Has found rest) = HasElement first found rest.now
IsFirstRead first first_element.Faulty = first ≡ faulty

-- one more element, or no memory for it or for an earlier one
abbrev pub IsWithElement : Result (Vec Element) SourceError
    → Result Element SourceError → Result (Vec Element) SourceError → Type 0
IsWithElement (Ok elements) (Ok element) (Ok more) = more.items ≡ elements.items ++ element ∷ []
IsWithElement (Ok elements) (Ok element) (Err e) = e ≡ NoMemory
IsWithElement (Ok elements) (Err e) (Ok more) = ⊥
IsWithElement (Ok elements) (Err e) (Err e') = e' ≡ e
IsWithElement (Err e) element (Ok more) = ⊥
IsWithElement (Err e) element (Err e') = e' ≡ e

-- the elements, or no memory for them
abbrev pub AreFound : List Element → Result (Vec Element) SourceError → Type 0
AreFound elements (Ok found) = found.items ≡ elements
AreFound elements (Err e) = e ≡ NoMemory
