-- How long the canonical text of a list of parts is.
use Rattle.std.specs.Prelude.{ℕ, ◌+◌, length}
use Rattle.lq_predicate_formula.specs.Canonical.{canonical}
use Rattle.lq_predicate_formula.specs.Query.{Queries, no_more, and_then}

-- the bytes of the parts, and of two beside each
abbrev pub parts_size : Queries → ℕ
parts_size no_more = 0
parts_size (and_then q qs) = (length (canonical q) + 2) + parts_size qs
