-- The size of a query, and of some queries that are parts of one.
use Rattle.std.specs.Prelude.{List, [], ◌∷◌, length}
use Rattle.lq_predicate_formula.specs.Canonical.{canonical, depth}
use Rattle.lq_predicate_formula.specs.Capped.{capped}
use Rattle.lq_predicate_formula.specs.Query.{Query, And, queries}
use Rattle.lq_predicate.specs.declared.sizes.QuerySize.{QuerySize}
use Rattle.lq_predicate.specs.declared.sizes.SizeParts.{SizeParts}
use Rattle.lq_predicate.specs.declared.sizes.SizeParts.TheVariants.{Empty, One, More}

abbrev pub query_size : Query → QuerySize
query_size q = record { depth = capped (depth q); bytes = capped (length (canonical q)) }

-- two or more parts count as one And: an Or of them has the same depth and length
abbrev pub parts_of : List Query → SizeParts
parts_of [] = Empty
parts_of (q ∷ []) = One (query_size q)
parts_of (q ∷ r ∷ qs) = More (query_size (And (queries (q ∷ r ∷ qs))))
