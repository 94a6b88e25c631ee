-- Which queries a formula can have: those that are read from one.
use Rattle.std.specs.Prelude.{◌≡◌, ◌≤◌, List, [], ◌∷◌, length, true}
use Rattle.std.specs.Char.{IsScalar}
use Rattle.lq_value.specs.Item.{Item}
use Rattle.lq_value.specs.Item.TheVariants.{One, Range}
use Rattle.lq_value.specs.Element.{Element}
use Rattle.lq_value.specs.Element.TheVariants.{Star, Any, Set}
use Rattle.lq_value.specs.Element.TheVariants as element
use Rattle.lq_value.specs.declared.literal.Literal.{Literal}
use Rattle.lq_value.specs.declared.literal.Literal.TheVariants.{Pattern, Plain}
use Rattle.lq_value.specs.Compare.{suits}
use Rattle.lq_value.specs.Name.{is_attr_name}
use Rattle.lq_value.specs.declared.op.Op.{Op}
use Rattle.lq_predicate_formula.specs.Query.{Query, Compare, Not, And, Or, Queries, no_more, and_then}
use Rattle.lq_predicate_formula.specs.Canonical.{canonical, comparisons, depth}
use Rattle.lq_predicate_formula.specs.Faults.{most_bytes, most_comparisons, most_depth}

-- the item consists of characters, and a range doesn't end below its start
abbrev pub IsGoodItem : Item → Type 0
IsGoodItem (One c) = IsScalar c
IsGoodItem (Range c d) = IsScalar c × IsScalar d × (c ≤ d)

abbrev pub AreGoodItems : List Item → Type 0
AreGoodItems [] = Unit {0}
AreGoodItems (i ∷ is) = IsGoodItem i × AreGoodItems is

-- the element consists of characters, and a set has at least one item
abbrev pub IsGoodElement : Element → Type 0
IsGoodElement Star = Unit {0}
IsGoodElement Any = Unit {0}
IsGoodElement (element.Plain c) = IsScalar c
IsGoodElement (Set negated items) = (items ≡ [] → ⊥) × AreGoodItems items

abbrev pub IsGoodPattern : List Element → Type 0
IsGoodPattern [] = Unit {0}
IsGoodPattern (e ∷ es) = IsGoodElement e × IsGoodPattern es

abbrev pub IsGoodLiteral : Literal → Type 0
IsGoodLiteral (Pattern elements) = IsGoodPattern elements
IsGoodLiteral (Plain text) = Unit {0}

abbrev pub HasTwo : Queries → Type 0
HasTwo no_more = ⊥
HasTwo (and_then q no_more) = ⊥
HasTwo (and_then q (and_then r qs)) = Unit {0}

-- each attribute has a name, each literal satisfies P with its operator, and an And or an Or has at
-- least two parts
abbrev mutual
  pub IsProperBy : (Op → Literal → Type 0) → Query → Type 0
  IsProperBy P (Compare attr op literal) = (is_attr_name attr ≡ true) × P op literal
  IsProperBy P (Not q) = IsProperBy P q
  IsProperBy P (And qs) = HasTwo qs × AreProperBy P qs
  IsProperBy P (Or qs) = HasTwo qs × AreProperBy P qs

  -- the same for each query of a list
  pub AreProperBy : (Op → Literal → Type 0) → Queries → Type 0
  AreProperBy P no_more = Unit {0}
  AreProperBy P (and_then q qs) = IsProperBy P q × AreProperBy P qs

-- the literal suits the operator, and has a source
abbrev pub IsGoodBehind : Op → Literal → Type 0
IsGoodBehind op literal = (suits literal op ≡ true) × IsGoodLiteral literal

abbrev pub IsProper : Query → Type 0
IsProper q = IsProperBy IsGoodBehind q

abbrev pub AreProper : Queries → Type 0
AreProper qs = AreProperBy IsGoodBehind qs

-- proper, with at most the comparisons, the depth and the bytes that a predicate may have
pub record IsWithinLimits (q : Query) : Type 0 where
  pub proper : IsProper q
  pub few : comparisons q ≤ most_comparisons
  pub shallow : depth q ≤ most_depth
  pub brief : length (canonical q) ≤ most_bytes
