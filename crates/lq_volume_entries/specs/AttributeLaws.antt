-- Facts about attributes after one is set or removed.
use Rattle.std.specs.Prelude.{◌≡◌, ℕ, List, Some, None, if◌then◌else◌}
use Rattle.std.specs.Str.{bytes_eq}
use Rattle.lq_value.specs.declared.value.Value.{Value}
use Rattle.lq_volume_entries.specs.Attributes.{Attributes, HasOwnNames, value_of, with_attr, without_attr}

-- no name comes twice after one is set or removed
pub record NamesStayApart : Type 0 where
  pub set : (attrs : Attributes) (attr : List ℕ) (value : Value) → HasOwnNames attrs
      → HasOwnNames (with_attr attrs attr value)
  pub removed : (attrs : Attributes) (attr : List ℕ) → HasOwnNames attrs
      → HasOwnNames (without_attr attrs attr)

-- what is found under a name after one is set or removed
pub record ValuesAreFound : Type 0 where
  pub set : (attrs : Attributes) (attr name : List ℕ) (value : Value)
      → value_of (with_attr attrs attr value) name
      ≡ (if bytes_eq name attr then Some value else value_of attrs name)
  pub removed : (attrs : Attributes) (attr name : List ℕ)
      → value_of (without_attr attrs attr) name
      ≡ (if bytes_eq name attr then None else value_of attrs name)
