use Rattle.std.proofs.Common.{◌≤◌, ◌-◌, length}
use Rattle.lq_value_pattern.specs.Seek.{AreOff}
use Rattle.lq_value_pattern.proofs.window_search.next_on.Given as goal

-- no flag up to here is on
abbrev pub invariant-loop-next : goal.invariant-loop-next
invariant-loop-next l = record {
  within : l.next ≤ length l.flags;
  behind : l.from ≤ l.next;
  off : AreOff l.flags l.from l.next;
}

abbrev pub decreases-loop-next : goal.decreases-loop-next
decreases-loop-next l = length l.flags - l.next
