-- Which field of an entry a name stands for.
use Rattle.std.specs.Prelude.{ℕ, List, codes, if◌then◌else◌}
use Rattle.std.specs.Str.{bytes_eq}
use Rattle.lq_value.specs.declared.attr_field.Field.{Field}
use Rattle.lq_value.specs.declared.attr_field.Field.TheVariants.{Name, Size, LastModified, Attribute}

-- each field has one name, and every other name is an attribute's
abbrev pub field_of : List ℕ → Field
field_of name =
    if bytes_eq name (codes "name") then Name
    else if bytes_eq name (codes "size") then Size
    else if bytes_eq name (codes "last_modified") then LastModified
    else Attribute
