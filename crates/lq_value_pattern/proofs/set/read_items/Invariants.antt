use Rattle.std.proofs.Common.{length, IsUtf8}
use Rattle.lq_value_pattern.specs.Sign.{signs_of}
use Rattle.lq_value_pattern.proofs.ReadingLemmas.{ItemsSoFar}
use Rattle.lq_value_pattern.proofs.set.read_items.Given as goal

-- the items so far, and then those that are left
abbrev pub invariant-loop-rest : goal.invariant-loop-rest
invariant-loop-rest l = record {
  text : IsUtf8 l.left;
  so_far : ItemsSoFar (signs_of l.fn.text) l.items (signs_of l.left);
}

abbrev pub decreases-loop-rest : goal.decreases-loop-rest
decreases-loop-rest l = length (signs_of l.left)
