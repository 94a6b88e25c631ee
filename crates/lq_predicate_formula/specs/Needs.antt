-- Queries that need an attribute: they are false of each row that shows only the three fields that
-- each entry has.
use Rattle.std.specs.Prelude.{Bool, true, false, ◌&&◌, ◌||◌}
use Rattle.lq_value.specs.declared.attr_field.Field.{Field}
use Rattle.lq_value.specs.declared.attr_field.Field.TheVariants.{Attribute}
use Rattle.lq_value.specs.Field.{field_of}
use Rattle.lq_predicate_formula.specs.Query.{Query, Compare, Not, And, Or, Queries, no_more, and_then}

-- whether a field is an attribute, which an entry may lack
abbrev pub is_attribute : Field → Bool
is_attribute Attribute = true
is_attribute field = false

-- a comparison needs its attribute, an And what one of its parts needs, an Or what all of them need
abbrev mutual
  pub needs_attribute : Query → Bool
  needs_attribute (Compare attr op literal) = is_attribute (field_of attr)
  needs_attribute (Not q) = false
  needs_attribute (And qs) = some_need qs
  needs_attribute (Or qs) = all_need qs

  -- whether one of some queries needs an attribute
  pub some_need : Queries → Bool
  some_need no_more = false
  some_need (and_then q qs) = needs_attribute q || some_need qs

  -- whether each of some queries needs one
  pub all_need : Queries → Bool
  all_need no_more = true
  all_need (and_then q qs) = needs_attribute q && all_need qs
