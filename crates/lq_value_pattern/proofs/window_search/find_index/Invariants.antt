use Rattle.std.proofs.Common.{◌-◌}
use Rattle.lq_value_pattern.specs.Seek.{TakeNoneBefore}
use Rattle.lq_value_pattern.proofs.window_search.find_index.Given as goal

-- before the start there is no index
abbrev pub invariant-loop-start : goal.invariant-loop-start
invariant-loop-start l = TakeNoneBefore l.elements l.text l.start

abbrev pub decreases-loop-start : goal.decreases-loop-start
decreases-loop-start l = l.end - l.start
