use Rattle.std.proofs.Common.{add-one}
use Rattle.lq_embed.specs.SessionState.{holds}
use Rattle.lq_embed.proofs.embedded.Embedded.drop_slot.Goals as goal

pub loop-preserved : goal.loop-preserved
loop-preserved c = rw add-one
    (holds c.loop.self, c.loop.invariant, c.if-not-skip_message.ensures)
