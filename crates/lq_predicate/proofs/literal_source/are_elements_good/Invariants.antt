use Rattle.std.proofs.Common.{drop}
use Rattle.std.specs.Prelude.{◌↔◌}
use Rattle.lq_predicate_formula.specs.Limits.{IsGoodPattern}
use Rattle.lq_predicate.proofs.literal_source.are_elements_good.Given as goal

abbrev pub invariant-loop-element : goal.invariant-loop-element
invariant-loop-element l =
    IsGoodPattern (drop l.element-index l.elements) ↔ IsGoodPattern l.elements
