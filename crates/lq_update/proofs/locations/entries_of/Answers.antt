use Rattle.std.proofs.Common.{◌∙◌}
use Rattle.std.proofs.lemmas.List.{map-append}
use Rattle.lq_update.proofs.locations.entries_of.Goals as goal

pub loop-node-preserved : goal.loop-node-preserved
loop-node-preserved c = c.in_ok-push.ensures.items
    ∙ rw (c.in_ok-copy.ensures.value, c.loop-node.invariant) (simp map-append)
