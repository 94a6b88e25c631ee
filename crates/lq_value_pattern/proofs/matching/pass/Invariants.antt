use Rattle.std.proofs.Common.{length, chars}
use Rattle.lq_value_pattern.specs.Matching.{TakesRun}
use Rattle.lq_value_pattern.proofs.matching.pass.Given as goal

-- the elements before those that are left took a character each
abbrev pub invariant-loop-more : goal.invariant-loop-more
invariant-loop-more l = TakesRun l.fn.start.elements.now
    (chars l.fn.start.text.now) l.left.elements.now (chars l.left.text.now)

abbrev pub decreases-loop-more : goal.decreases-loop-more
decreases-loop-more l = length l.left.elements.now
