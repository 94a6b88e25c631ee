use Rattle.lq_predicate_formula.proofs.WritingLemmas.{items_left, on}
use Rattle.lq_predicate_formula.proofs.write_comparison.put_items.Goals as goal

pub loop-item-preserved : goal.loop-item-preserved
loop-item-preserved g c =
    on g.S.TextSink.after g.met.S.TextSink.joined _ _ _ _ _ _
    (items_left c.args.items.now c.loop-item.item-index _ c.loop-item-test.true)
    c.loop-item.invariant c.in_ok-put_item.ensures
