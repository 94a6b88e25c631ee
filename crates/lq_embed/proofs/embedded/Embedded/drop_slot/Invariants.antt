use Rattle.lq_embed.specs.Reads.{SkipsEach}
use Rattle.lq_embed.specs.SessionState.{holds}
use Rattle.lq_embed.proofs.embedded.Embedded.drop_slot.Given as goal

-- each read so far gave a message
abbrev pub invariant-loop : goal.invariant-loop
invariant-loop l = SkipsEach l.counter l.slot (holds l.initial.self) (holds l.self)
