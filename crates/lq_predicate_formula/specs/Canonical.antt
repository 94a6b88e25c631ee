-- The canonical text of a query, its depth, and its number of comparisons.
use Rattle.std.specs.Prelude.{ℕ, suc, ◌+◌, max, ◌==◌, ◌||◌, ◌&&◌, nat_le, if◌then◌else◌, Bool, List, [], ◌∷◌, ◌++◌, codes}
use Rattle.std.specs.List.{list_all}
use Rattle.std.specs.Str.{encode_utf8_all}
use Rattle.lq_value.specs.Item.{Item}
use Rattle.lq_value.specs.Item.TheVariants.{One, Range}
use Rattle.lq_value.specs.Element.{Element}
use Rattle.lq_value.specs.Element.TheVariants.{Star, Any, Set}
use Rattle.lq_value.specs.Element.TheVariants as element
use Rattle.lq_value.specs.declared.literal.Literal.{Literal}
use Rattle.lq_value.specs.declared.literal.Literal.TheVariants.{Pattern, Plain}
use Rattle.lq_value.specs.declared.op.Op.{Op}
use Rattle.lq_value.specs.declared.op.Op.TheVariants.{Eq, Ne, Lt, Le, Gt, Ge}
use Rattle.lq_predicate_formula.specs.Query.{Query, Compare, Not, And, Or, Queries, no_more, and_then}

-- ---- texts between marks

-- an ASCII letter, a digit, or one of _ : . -
abbrev pub is_bare_byte : ℕ → Bool
is_bare_byte b = (nat_le 65 b && nat_le b 90) || (nat_le 97 b && nat_le b 122)
    || (nat_le 48 b && nat_le b 57) || b == 95 || b == 58 || b == 46 || b == 45

-- `\` before each `\` and `"`
abbrev pub quoted : List ℕ → List ℕ
quoted [] = []
quoted (b ∷ bs) = if b == 92 || b == 34 then 92 ∷ b ∷ quoted bs else b ∷ quoted bs

-- a raw text between its marks, then what follows
abbrev pub in_marks : List ℕ → List ℕ → List ℕ
in_marks raw rest = 34 ∷ (raw ++ 34 ∷ rest)

-- an attribute, without marks if each of its bytes may stand without them, then what follows
abbrev pub attr_then : List ℕ → List ℕ → List ℕ
attr_then name rest =
    if list_all is_bare_byte name then name ++ rest else in_marks (quoted name) rest

abbrev pub op_text : Op → List ℕ
op_text Eq = codes "=="
op_text Ne = codes "!="
op_text Lt = codes "<"
op_text Le = codes "<="
op_text Gt = codes ">"
op_text Ge = codes ">="

-- ---- patterns, as characters, each one followed by the rest

-- `\` before one of * ? [ \ "
abbrev pub plain_then : ℕ → List ℕ → List ℕ
plain_then c rest =
    if c == 42 || c == 63 || c == 91 || c == 92 || c == 34 then 92 ∷ c ∷ rest else c ∷ rest

-- `\` before one of ] [ \ ^ - "
abbrev pub in_set_then : ℕ → List ℕ → List ℕ
in_set_then c rest =
    if c == 93 || c == 91 || c == 92 || c == 94 || c == 45 || c == 34
    then 92 ∷ c ∷ rest
    else c ∷ rest

abbrev pub item_then : Item → List ℕ → List ℕ
item_then (One c) rest = in_set_then c rest
item_then (Range c d) rest = in_set_then c (45 ∷ in_set_then d rest)

-- the items, then the `]`
abbrev pub items_then : List Item → List ℕ → List ℕ
items_then [] rest = 93 ∷ rest
items_then (i ∷ is) rest = item_then i (items_then is rest)

abbrev pub set_then : Bool → List Item → List ℕ → List ℕ
set_then negated items rest =
    if negated then 91 ∷ 94 ∷ items_then items rest else 91 ∷ items_then items rest

abbrev pub element_then : Element → List ℕ → List ℕ
element_then Star rest = 42 ∷ rest
element_then Any rest = 63 ∷ rest
element_then (element.Plain c) rest = plain_then c rest
element_then (Set negated items) rest = set_then negated items rest

abbrev pub pattern_text : List Element → List ℕ
pattern_text [] = []
pattern_text (e ∷ es) = element_then e (pattern_text es)

-- ---- queries, as bytes

-- the raw text of a literal
abbrev pub literal_text : Literal → List ℕ
literal_text (Pattern elements) = encode_utf8_all (pattern_text elements)
literal_text (Plain text) = quoted text

-- the canonical text of a query, then what follows it
abbrev mutual
  pub written : Query → List ℕ → List ℕ
  written (Compare attr op literal) rest =
      40 ∷ attr_then attr (op_text op ++ in_marks (literal_text literal) (41 ∷ rest))
  written (Not q) rest = 33 ∷ written q rest
  written (And qs) rest = 40 ∷ parts_written (codes "&&") qs (41 ∷ rest)
  written (Or qs) rest = 40 ∷ parts_written (codes "||") qs (41 ∷ rest)

  -- the parts of an And or an Or, with a separator between each two
  pub parts_written : List ℕ → Queries → List ℕ → List ℕ
  parts_written separator no_more rest = rest
  parts_written separator (and_then q qs) rest = written q (others_written separator qs rest)

  -- the parts after the first, with a separator before each
  pub others_written : List ℕ → Queries → List ℕ → List ℕ
  others_written separator no_more rest = rest
  others_written separator (and_then q qs) rest =
      separator ++ written q (others_written separator qs rest)

-- the canonical text of a query
abbrev pub canonical : Query → List ℕ
canonical q = written q []

-- a comparison has depth 1, any other query 1 more than its deepest part
abbrev mutual
  pub depth : Query → ℕ
  depth (Compare attr op literal) = 1
  depth (Not q) = suc (depth q)
  depth (And qs) = suc (deepest qs)
  depth (Or qs) = suc (deepest qs)

  -- the greatest depth of the queries of a list
  pub deepest : Queries → ℕ
  deepest no_more = 0
  deepest (and_then q qs) = max (depth q) (deepest qs)

-- the number of comparisons of a query
abbrev mutual
  pub comparisons : Query → ℕ
  comparisons (Compare attr op literal) = 1
  comparisons (Not q) = comparisons q
  comparisons (And qs) = all_comparisons qs
  comparisons (Or qs) = all_comparisons qs

  -- the number of comparisons in all queries of a list
  pub all_comparisons : Queries → ℕ
  all_comparisons no_more = 0
  all_comparisons (and_then q qs) = comparisons q + all_comparisons qs
