use Rattle.std.proofs.Common.{◌≡◌, ◌+◌, drop}
use Rattle.lq_predicate_formula.specs.Query.{queries}
use Rattle.lq_predicate_formula.specs.Canonical.{comparisons, all_comparisons}
use Rattle.lq_predicate_formula.proofs.tree.Tree.+comparisons.Given as goal

abbrev pub invariant-loop-part : goal.invariant-loop-part
invariant-loop-part l =
    l.count + all_comparisons (queries (drop l.part-index l.part-items)) ≡ comparisons l.self
