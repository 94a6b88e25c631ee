use Rattle.lq_embed.proofs.SavesLemmas.{AreWritten}
use Rattle.lq_embed.proofs.saves.put_nodes.Given as goal

abbrev pub invariant-loop-index : goal.invariant-loop-index
invariant-loop-index l = AreWritten l.saved l.index l.out
