use Rattle.std.proofs.Common.{◌≡◌, drop}
use Rattle.lq_predicate_formula.specs.Query.{queries}
use Rattle.lq_predicate_formula.specs.Span.{numbers_of, all_numbers, widened}
use Rattle.lq_predicate_formula.proofs.tree.Tree.+add_numbers.Given as goal

abbrev pub invariant-loop-part : goal.invariant-loop-part
invariant-loop-part l =
    widened l.span (all_numbers l.attr (queries (drop l.part-index l.part-items)))
    ≡ widened l.fn.span (numbers_of l.attr l.self)
