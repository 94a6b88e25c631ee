-- Which characters an item of a set includes, and which single character an element takes.
use Rattle.std.specs.Prelude.{ℕ, List, [], ◌∷◌, Bool, true, false, not, ◌&&◌, ◌==◌, nat_le, if◌then◌else◌}
use Rattle.std.specs.List.{list_any}
use Rattle.lq_value_pattern.specs.declared.element.Item.{Item}
use Rattle.lq_value_pattern.specs.declared.element.Item.TheVariants.{One, Range}
use Rattle.lq_value_pattern.specs.declared.element.Element.{Element}
use Rattle.lq_value_pattern.specs.declared.element.Element.TheVariants.{Star, Any, Plain, Set}

-- a single character includes itself, a range every character from its first to its last
abbrev pub has : Item → ℕ → Bool
has (One d) c = d == c
has (Range first last) c = nat_le first c && nat_le c last

-- some item includes the character
abbrev pub set_has : List Item → ℕ → Bool
set_has items c = list_any (λ item. has item c) items

-- whether there is no item
abbrev pub is_list_empty : List Item → Bool
is_list_empty [] = true
is_list_empty (item ∷ items) = false

-- whether an element takes the character
abbrev pub takes : Element → ℕ → Bool
takes Star c = false
takes Any c = true
takes (Plain d) c = d == c
takes (Set negated items) c = if negated then not (set_has items c) else set_has items c
