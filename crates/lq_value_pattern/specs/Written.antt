-- What a source writes: some split of its signs into one part for each element, in order, lets each
-- part write its element. At a fault the elements before it end, and no element is written there.
use Rattle.std.specs.Prelude.{◌≡◌, ◌≤◌, ◌==◌, ◌||◌, ℕ, List, [], ◌∷◌, ◌++◌, Bool, true, false}
use Rattle.lq_value_pattern.specs.declared.element.Item.{Item}
use Rattle.lq_value_pattern.specs.declared.element.Item.TheVariants.{One, Range}
use Rattle.lq_value_pattern.specs.declared.element.Element.{Element}
use Rattle.lq_value_pattern.specs.declared.element.Element.TheVariants.{Star, Any, Plain, Set}
use Rattle.lq_value_pattern.specs.declared.sign.Sign.{Sign}
use Rattle.lq_value_pattern.specs.declared.sign.Sign.TheVariants.{Bare, Escaped, Dangling}
use Rattle.lq_value_pattern.specs.Sign.{signs_of, signs_len}

-- `*`, `?` and `[`
abbrev pub is_special : ℕ → Bool
is_special c = c == 42 || c == 63 || c == 91

-- the sign means the character outside a set
abbrev pub StandsFor : Sign → ℕ → Type 0
StandsFor (Bare d) c = (d ≡ c) × (is_special d ≡ false)
StandsFor (Escaped d) c = d ≡ c
StandsFor Dangling c = ⊥

-- the sign means the character inside a set, where only `]` has a meaning of its own
abbrev pub StandsInSet : Sign → ℕ → Type 0
StandsInSet (Bare d) c = (d ≡ c) × ((d == 93) ≡ false)
StandsInSet (Escaped d) c = d ≡ c
StandsInSet Dangling c = ⊥

-- a `-` that comes first is the last sign before the `]`
abbrev pub BeginsNoRange : List Sign → Type 0
BeginsNoRange text = (s : Sign) (behind : List Sign) → text ≡ Bare 45 ∷ s ∷ behind → s ≡ Bare 93

-- the part writes the item, where the rest of the set comes after it
abbrev pub IsItem : Item → List Sign → List Sign → Type 0
IsItem (One c) part rest = (s : Sign) × (part ≡ s ∷ []) × StandsInSet s c × BeginsNoRange rest
IsItem (Range c d) part rest = (s : Sign) × (t : Sign) × (part ≡ s ∷ Bare 45 ∷ t ∷ [])
    × StandsInSet s c × StandsInSet t d × (c ≤ d)

-- the items, and then the `]` of their set
abbrev pub AreItems : List Item → List Sign → Type 0
AreItems [] text = text ≡ Bare 93 ∷ []
AreItems (i ∷ is) text = (part : List Sign) × (rest : List Sign) × (text ≡ part ++ rest)
    × IsItem i part rest × AreItems is rest

-- the items of a set, at least one
abbrev pub AreSome : List Item → List Sign → Type 0
AreSome items text = AreItems items text × (items ≡ [] → ⊥)

-- the part writes the element
abbrev pub IsElement : Element → List Sign → Type 0
IsElement Star part = part ≡ Bare 42 ∷ []
IsElement Any part = part ≡ Bare 63 ∷ []
IsElement (Plain c) part = (s : Sign) × (part ≡ s ∷ []) × StandsFor s c
IsElement (Set true items) part =
    (inside : List Sign) × (part ≡ Bare 91 ∷ Bare 94 ∷ inside) × AreSome items inside
IsElement (Set false items) part =
    (inside : List Sign) × (part ≡ Bare 91 ∷ inside) × AreSome items inside
    × ((behind : List Sign) → inside ≡ Bare 94 ∷ behind → ⊥)

-- the signs write the elements
abbrev pub Writes : List Sign → List Element → Type 0
Writes text [] = text ≡ []
Writes text (e ∷ es) = (part : List Sign) × (rest : List Sign) × (text ≡ part ++ rest)
    × IsElement e part × Writes rest es

-- the leftmost fault of a source is at this byte offset
pub record HasFaultAt (text : List ℕ) (offset : ℕ) : Type 0 where
  pub elements : List Element
  pub front : List Sign
  pub rest : List Sign
  pub split : signs_of text ≡ front ++ rest
  pub before : Writes front elements
  pub some : rest ≡ [] → ⊥
  pub none : (e : Element) (part behind : List Sign) → rest ≡ part ++ behind → IsElement e part → ⊥
  pub bytes : offset ≡ signs_len front
