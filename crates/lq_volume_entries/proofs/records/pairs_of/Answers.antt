use Rattle.lq_volume_entries.proofs.Finds.{pairs-more}
use Rattle.lq_volume_entries.proofs.records.pairs_of.Goals as goal

pub loop-node-preserved : goal.loop-node-preserved
loop-node-preserved c = rw c.in_ok-push.ensures.items (pairs-more c.loop-node.pairs.items
    c.loop-node.yielded (c.in-Some.node, c.in-Some.record) c.loop-node.invariant)
