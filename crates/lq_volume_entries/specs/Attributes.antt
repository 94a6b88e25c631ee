-- The attributes of an entry: names with their values, in the order in which they were first set.
use Rattle.std.specs.Prelude.{◌≡◌, ℕ, List, [], ◌∷◌, Bool, false, not, ◌||◌, filter, codes, Option}
use Rattle.std.specs.List.{AllByRecursion}
use Rattle.std.specs.Map.{lookup}
use Rattle.std.specs.Str.{bytes_eq}
use Rattle.indexmap.specs.IndexMap.{insert_entry}
use Rattle.lq_value.specs.declared.value.Value.{Value}

-- the attributes of an entry, each a name with its value
abbrev pub Attributes : Type 0
Attributes = List (List ℕ × Value)

-- no name comes twice
abbrev pub HasOwnNames : Attributes → Type 0
HasOwnNames [] = Unit {0}
HasOwnNames (a ∷ attrs) = AllByRecursion (λ b. bytes_eq a.0 b.0 ≡ false) attrs × HasOwnNames attrs

-- the value of an attribute
abbrev pub value_of : Attributes → List ℕ → Option Value
value_of attrs attr = lookup (bytes_eq attr) attrs

-- an attribute that is there keeps its position and takes the value, a new one goes last
abbrev pub with_attr : Attributes → List ℕ → Value → Attributes
with_attr attrs attr value = insert_entry bytes_eq attrs attr value

-- the others keep their order
abbrev pub without_attr : Attributes → List ℕ → Attributes
without_attr attrs attr = filter (λ a. not (bytes_eq attr a.0)) attrs

-- the names under which every entry shows its own properties
abbrev pub is_reserved : List ℕ → Bool
is_reserved attr =
    bytes_eq attr (codes "name") || bytes_eq attr (codes "size")
    || bytes_eq attr (codes "last_modified")
