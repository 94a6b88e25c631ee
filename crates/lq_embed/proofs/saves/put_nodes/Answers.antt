use Rattle.std.proofs.Common.{sym}
use Rattle.lq_embed.proofs.SavesLemmas.{written-next}
use Rattle.lq_embed.proofs.saves.put_nodes.Goals as goal

pub loop-index-preserved : goal.loop-index-preserved
loop-index-preserved c = written-next c.args.saved.now c.loop-index.index c.loop-index.out
    c.in-Some.node c.in-Some.field-0-1 (sym c.in-Some.ensures) c.loop-index.invariant
