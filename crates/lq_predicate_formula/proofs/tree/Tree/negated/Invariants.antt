use Rattle.std.proofs.Common.{◌≡◌}
use Rattle.lq_predicate_formula.specs.Machine.{negate}
use Rattle.lq_predicate_formula.proofs.tree.Tree.negated.Given as goal

abbrev pub invariant-loop-left : goal.invariant-loop-left
invariant-loop-left l = negate l.left l.whole ≡ negate l.bangs l.fn.self

abbrev pub decreases-loop-left : goal.decreases-loop-left
decreases-loop-left l = l.left
