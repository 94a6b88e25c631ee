use Rattle.std.proofs.Common.{suc, ◌∙◌, sym, arith}
use Rattle.lq_volume.proofs.WalkLemmas.{climbs-on, climbs-step}
use Rattle.lq_volume.proofs.walks.reaches_root.Goals as goal

pub loop-preserved : goal.loop-preserved
loop-preserved c =
    let step = climbs-step c.records_are_kept.ensures c.args.entries.now c.loop.at
    c.in-Some.record.now c.requires.top c.if-at-eq-ROOT.false (sym c.in-Some.ensures) in
    record {
      end = c.loop.invariant.end;
      same = rw c.dir-at.ensures (sym step ∙ c.loop.invariant.same);
      rest = λ n e.
          rw c.dir-at.ensures
          (sym (climbs-on n _ _ _ _ c.if-at-eq-ROOT.false (sym c.in-Some.ensures))
          ∙ c.loop.invariant.rest (suc n) (omega arith));
    }

pub returns : goal.returns
returns c = c.loop.invariant.rest 0 (omega arith)
