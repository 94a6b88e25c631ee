use Rattle.std.proofs.Common.{◌+◌, ap, arith, refl}
use Rattle.lq_embed.proofs.RowLemmas.{given-full, given-next}
use Rattle.lq_embed.proofs.embedded.Embedded.take_entries.Goals as goal

pub loop-row-preserved : goal.loop-row-preserved
loop-row-preserved c = record {
  count = ap (λ n. n + 1) c.loop-row.invariant.count;
  given = given-next _ c.next_entry.new.out c.loop-row.invariant.given c.loop-row-test.true refl
      c.if-not-next_entry.ensures;
}

pub returns-after-loop-row : goal.returns-after-loop-row
returns-after-loop-row c = given-full c.loop-row.invariant.given
    (omega (arith, c.loop-row-test.false, c.loop-row.auto.row-index-end))
    c.loop-row.invariant.count
