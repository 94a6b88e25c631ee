use Rattle.std.proofs.Common.{take}
use Rattle.lq_value_pattern.specs.Matching.{AreSingle}
use Rattle.lq_value_pattern.proofs.long.count_single.Given as goal

-- no element so far is a star
abbrev pub invariant-loop-k : goal.invariant-loop-k
invariant-loop-k l = AreSingle (take l.k l.elements)
