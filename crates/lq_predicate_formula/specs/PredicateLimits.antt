-- Which queries are predicates: each literal suits its operator, each list has at least two parts,
-- and the query is within the limits.
use Rattle.std.specs.Prelude.{ℕ, suc, Bool, true, ◌&&◌, length, nat_le, Option, Some, None, if◌then◌else◌}
use Rattle.lq_value.specs.Compare.{suits}
use Rattle.lq_predicate_formula.specs.Canonical.{canonical, depth, comparisons}
use Rattle.lq_predicate_formula.specs.Query.{Query, Compare, Not, And, Or, Queries, no_more, and_then}

abbrev pub part_count : Queries → ℕ
part_count no_more = 0
part_count (and_then q qs) = suc (part_count qs)

-- each literal suits its operator, and each list has at least two parts
abbrev mutual
  pub is_formed : Query → Bool
  is_formed (Compare attr op literal) = suits literal op
  is_formed (Not q) = is_formed q
  is_formed (And qs) = nat_le 2 (part_count qs) && are_formed qs
  is_formed (Or qs) = nat_le 2 (part_count qs) && are_formed qs

  -- the same for each query of a list
  pub are_formed : Queries → Bool
  are_formed no_more = true
  are_formed (and_then q qs) = is_formed q && are_formed qs

-- depth at most 64, at most 256 comparisons, and a canonical text of at most 4,096 bytes
abbrev pub is_within : Query → Bool
is_within q =
    nat_le (depth q) 64 && nat_le (comparisons q) 256 && nat_le (length (canonical q)) 4096

-- the query, if it is within the limits of a predicate
abbrev pub if_within : Query → Option Query
if_within q = if is_within q then Some q else None

abbrev pub is_predicate : Query → Bool
is_predicate q = is_formed q && is_within q
