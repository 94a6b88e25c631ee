use Rattle.std.proofs.Common.{length, IsUtf8}
use Rattle.lq_value_pattern.specs.Sign.{signs_of}
use Rattle.lq_value_pattern.proofs.SourceLemmas.{ElementsSoFar}
use Rattle.lq_value_pattern.proofs.source.read_elements.Given as goal

-- the elements so far, and then those that are left
abbrev pub invariant-loop-elements : goal.invariant-loop-elements
invariant-loop-elements l = record {
  text : IsUtf8 l.left;
  so_far : ElementsSoFar (signs_of l.fn.source) l.elements (signs_of l.left);
}

abbrev pub decreases-loop-elements : goal.decreases-loop-elements
decreases-loop-elements l = length (signs_of l.left)
