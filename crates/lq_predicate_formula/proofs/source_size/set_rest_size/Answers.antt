use Rattle.lq_predicate_formula.proofs.SourceSizeLemmas.{items_on, items_end, items_stuck}
use Rattle.lq_predicate_formula.proofs.source_size.set_rest_size.Goals as goal

pub returns-in-End-clause-value : goal.returns-in-End-clause-value
returns-in-End-clause-value c = items_end c.sources_are_walked.ensures _ _ _ _ _
    c.loop-rest.invariant.so_far c.in-End.ensures.first c.saturating_add.ensures

pub loop-rest-smaller : goal.loop-rest-smaller
loop-rest-smaller c = c.sources_are_walked.ensures.items.fewer _ _ _ c.in-Has.ensures.first

pub loop-rest-preserved : goal.loop-rest-preserved
loop-rest-preserved c = record {
  text = c.in-Has.ensures.text;
  so_far = items_on c.sources_are_walked.ensures _ _ _ _ _ _ _ c.loop-rest.invariant.so_far
      c.in-Has.ensures.first c.item_size.ensures c.saturating_add-size.ensures;
}

pub returns-in-Faulty-clause-value : goal.returns-in-Faulty-clause-value
returns-in-Faulty-clause-value c = items_stuck c.sources_are_walked.ensures _ _ _
    c.loop-rest.invariant.so_far c.in-Faulty.ensures.first
