use Rattle.std.proofs.Common.{suc, ◌-◌, ◌∙◌, sym, arith}
use Rattle.lq_volume_entries.proofs.Steps.{climbs-here, climbs-top, climbs-on}
use Rattle.lq_volume_entries.proofs.records.Records.climbs.Goals as goal

pub returns-then-at-to : goal.returns-then-at-to
returns-then-at-to c =
    let n = c.len-end.result - c.loop.counter in
    sym (climbs-here n _ _ _ c.if-at-to.true) ∙ c.loop.invariant.rest n (omega arith)

pub returns-in-None : goal.returns-in-None
returns-in-None c =
    let n = c.len-end.result - c.loop.counter in
    sym (climbs-top n _ _ _ c.if-at-to.false c.in-None.ensures.record)
    ∙ c.loop.invariant.rest n (omega arith)

pub loop-preserved : goal.loop-preserved
loop-preserved c = record {
  end = c.loop.invariant.end;
  rest = λ n e.
      rw c.dir-at.ensures (sym (climbs-on n _ _ _ _ c.if-at-to.false c.in-Some.ensures.record)
      ∙ c.loop.invariant.rest (suc n) (omega arith));
}

pub returns : goal.returns
returns c = c.loop.invariant.rest 0 (omega arith)
