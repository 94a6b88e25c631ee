use Rattle.std.proofs.Common.{arith}
use Rattle.lq_predicate_formula.proofs.SourceSizeLemmas.{elements_on, elements_end, elements_stuck, none_measured}
use Rattle.lq_predicate_formula.proofs.source_size.source_size.Goals as goal

pub returns-in-End : goal.returns-in-End
returns-in-End c = elements_end c.sources_are_walked.ensures _ _ _ _ c.loop-element.invariant.so_far
    c.in-End.ensures c.loop-element.invariant.small

pub loop-element-init : goal.loop-element-init
loop-element-init c =
    record { text = c.utf8.source; small = omega arith; so_far = none_measured c.args.source.now }

pub loop-element-smaller : goal.loop-element-smaller
loop-element-smaller c = c.sources_are_walked.ensures.elements.fewer _ _ _ c.in-Has.ensures.is

pub loop-element-preserved : goal.loop-element-preserved
loop-element-preserved c = record {
  text = c.in-Has.ensures.text;
  small = omega (arith, c.saturating_add-size.ensures);
  so_far = elements_on c.sources_are_walked.ensures _ _ _ _ _ _ _ c.loop-element.invariant.so_far
      c.in-Has.ensures c.saturating_add-size.ensures;
}

pub returns-in-Faulty : goal.returns-in-Faulty
returns-in-Faulty c =
    elements_stuck c.sources_are_walked.ensures _ _ _ _ _ c.loop-element.invariant.text
    c.loop-element.invariant.so_far c.in-Faulty.ensures c.saturating_sub.ensures
