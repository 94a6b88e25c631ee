use Rattle.lq_predicate_formula.proofs.WritingLemmas.{list_left, on}
use Rattle.lq_predicate_formula.proofs.write_comparison.put_list.Goals as goal

pub loop-element-preserved : goal.loop-element-preserved
loop-element-preserved g c =
    on g.S.TextSink.after g.met.S.TextSink.joined _ _ _ _ _ _ (list_left c.args.elements.now
    c.loop-element.element-index c.element-item.result c.loop-element-test.true c.element-item.is)
    c.loop-element.invariant c.in_ok-put_element.ensures
