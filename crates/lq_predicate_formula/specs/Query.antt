-- A formula's query: comparisons of attributes with literals, under `!`, `&&` and `||`.
use Rattle.std.specs.Prelude.{ℕ, List, [], ◌∷◌}
use Rattle.lq_value.specs.declared.op.Op.{Op}
use Rattle.lq_value.specs.declared.literal.Literal.{Literal}

mutual
  pub data Query : Type 0 where
    Compare : (attr : List ℕ) (op : Op) (literal : Literal) → Query
    Not : Query → Query
    And : Queries → Query
    Or : Queries → Query

  pub data Queries : Type 0 where
    no_more : Queries
    and_then : Query → Queries → Queries

abbrev pub queries : List Query → Queries
queries [] = no_more
queries (q ∷ qs) = and_then q (queries qs)

abbrev pub list_of : Queries → List Query
list_of no_more = []
list_of (and_then q qs) = q ∷ list_of qs

-- the only part, or the And of two or more
abbrev pub both_of : List Query → Query
both_of [] = And no_more
both_of (q ∷ []) = q
both_of (q ∷ r ∷ qs) = And (queries (q ∷ r ∷ qs))

-- the only part, or the Or of two or more
abbrev pub either_of : List Query → Query
either_of [] = Or no_more
either_of (q ∷ []) = q
either_of (q ∷ r ∷ qs) = Or (queries (q ∷ r ∷ qs))
