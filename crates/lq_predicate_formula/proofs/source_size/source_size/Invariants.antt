use Rattle.std.proofs.Common.{◌≡◌, ◌≤◌, ◌-◌, ◌^◌, IsUtf8, length}
use Rattle.lq_value.specs.Sign.{signs_of}
use Rattle.lq_value.specs.Source.{element_at, pattern_of, pieces_of}
use Rattle.lq_predicate_formula.specs.Sizes.{pattern_sized}
use Rattle.lq_predicate_formula.proofs.SourceSizeLemmas.{measured}
use Rattle.lq_predicate_formula.proofs.source_size.source_size.Given as goal

abbrev pub invariant-loop-element : goal.invariant-loop-element
invariant-loop-element l = record {
  text : IsUtf8 l.left;
  small : l.size ≤ 2 ^ 64 - 1;
  so_far : measured l.fn.source l.size (pieces_of element_at (signs_of l.left))
      ≡ pattern_sized (pattern_of l.fn.source);
}

abbrev pub decreases-loop-element : goal.decreases-loop-element
decreases-loop-element l = length (signs_of l.left)
