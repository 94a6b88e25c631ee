use Rattle.std.proofs.Common.{◌≡◌, ◌<◌, ◌≤◌, ◌-◌, length, take, slice_index}
use Rattle.lq_value_pattern.specs.Seek.{AreFlags, AreOff}
use Rattle.lq_value_pattern.proofs.window_search.find_flagged.Given as goal

-- the flags of the elements so far, of which the first that is on is known
abbrev pub invariant-loop-k : goal.invariant-loop-k
invariant-loop-k l = record {
  count : l.k ≤ length l.elements;
  flags : AreFlags (take l.k l.elements) l.text l.flags;
  within : l.first < length l.flags;
  off : AreOff l.flags 0 l.first;
  on : slice_index l.flags l.first ≡ 0 → ⊥;
}

abbrev pub decreases-loop-k : goal.decreases-loop-k
decreases-loop-k l = length l.elements - l.k
