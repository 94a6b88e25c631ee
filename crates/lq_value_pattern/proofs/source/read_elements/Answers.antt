use Rattle.std.proofs.Common.{◌∙◌, sym}
use Rattle.lq_value_pattern.specs.Sign.{signs_of}
use Rattle.lq_value_pattern.proofs.SourceLemmas.{element_shrinks, elements_more, end_refused, end_value, left_within, stuck_refused}
use Rattle.lq_value_pattern.proofs.SourceLaws.{answer_fault, answer_written, fault_named}
use Rattle.lq_value_pattern.proofs.source.read_elements.Goals as goal

pub returns-in-End-clause-failed : goal.returns-in-End-clause-failed
returns-in-End-clause-failed c =
    end_refused c.args.source.now _ _ c.loop-elements.invariant.so_far c.in-End.ensures

pub returns-in-End-clause-value : goal.returns-in-End-clause-value
returns-in-End-clause-value c =
    end_value c.args.source.now _ _ c.loop-elements.invariant.so_far c.in-End.ensures

pub loop-elements-smaller : goal.loop-elements-smaller
loop-elements-smaller c = element_shrinks (signs_of c.loop-elements.left.now)
    c.in-Has.ensures.element (signs_of c.in-Has.rest.now) c.in-Has.ensures.is

pub loop-elements-preserved : goal.loop-elements-preserved
loop-elements-preserved c = record {
  text = c.in-Has.ensures.text;
  so_far = elements_more _ _ _ _ _ _ _ c.loop-elements.invariant.so_far c.in-Has.ensures.is
      c.in-Has.ensures.kept c.with_element-elements.ensures;
}

pub overflow_sub-offset : goal.overflow_sub-offset
overflow_sub-offset c = left_within c.args.source.now c.loop-elements.left.now _ c.utf8.source
    c.loop-elements.invariant.text c.loop-elements.invariant.so_far

pub returns-in-Faulty-clause-failed : goal.returns-in-Faulty-clause-failed
returns-in-Faulty-clause-failed c = (
  tt,
  stuck_refused c.args.source.now c.loop-elements.left.now _ c.loop-elements.invariant.text
      c.loop-elements.invariant.so_far c.in-Faulty.ensures,
)

pub returns-in-End-clause-written : goal.returns-in-End-clause-written
returns-in-End-clause-written c = answer_written c.args.source.now _ (
    end_value c.args.source.now _ _ c.loop-elements.invariant.so_far c.in-End.ensures
    )

pub returns-in-End-clause-fault : goal.returns-in-End-clause-fault
returns-in-End-clause-fault c = answer_fault c.args.source.now _ c.utf8.source (
    end_refused c.args.source.now _ _ c.loop-elements.invariant.so_far c.in-End.ensures
    )

pub returns-in-Faulty-clause-fault : goal.returns-in-Faulty-clause-fault
returns-in-Faulty-clause-fault c = λ offset is.
    let there = stuck_refused c.args.source.now c.loop-elements.left.now _
    c.loop-elements.invariant.text c.loop-elements.invariant.so_far c.in-Faulty.ensures in
    fault_named c.args.source.now offset c.utf8.source (sym is ∙ there)
