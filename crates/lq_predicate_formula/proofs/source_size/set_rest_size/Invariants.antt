use Rattle.std.proofs.Common.{◌≡◌, IsUtf8, length}
use Rattle.lq_value.specs.Sign.{signs_of}
use Rattle.lq_value.specs.Source.{item_at, pieces_of}
use Rattle.lq_predicate_formula.specs.Sizes.{items_sized}
use Rattle.lq_predicate_formula.proofs.source_size.set_rest_size.Given as goal

abbrev pub invariant-loop-rest : goal.invariant-loop-rest
invariant-loop-rest l = record {
  text : IsUtf8 l.left;
  so_far : items_sized l.size (pieces_of item_at (signs_of l.left))
      ≡ items_sized 0 (pieces_of item_at (signs_of l.fn.text));
}

abbrev pub decreases-loop-rest : goal.decreases-loop-rest
decreases-loop-rest l = length (signs_of l.left)
