use Rattle.std.proofs.Common.{drop}
use Rattle.std.specs.Prelude.{◌↔◌}
use Rattle.lq_predicate_formula.specs.Limits.{AreGoodItems}
use Rattle.lq_predicate.proofs.literal_source.are_items_good.Given as goal

abbrev pub invariant-loop-item : goal.invariant-loop-item
invariant-loop-item l =
    AreGoodItems (drop l.item-index l.items) ↔ AreGoodItems l.items
