use Rattle.std.proofs.Common.{◌≡◌, ◌++◌}
use Rattle.lq_value.specs.Pattern.{plain_elements}
use Rattle.lq_predicate.proofs.stack_comparison.push_plain.Given as goal

abbrev pub invariant-loop-c : goal.invariant-loop-c
invariant-loop-c l = l.elements.items ≡ l.fn.elements.items ++ plain_elements l.yielded
