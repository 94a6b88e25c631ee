use Rattle.std.proofs.Common.{◌≡◌}
use Rattle.lq_embed.specs.SessionState.{holds}
use Rattle.lq_embed.proofs.ReadLemmas.{AreRead}
use Rattle.lq_embed.proofs.embedded.Embedded.read_many.Given as goal

abbrev pub invariant-loop-message : goal.invariant-loop-message
invariant-loop-message l = record {
  count : l.count ≡ l.message-index;
  read : AreRead l.slot (holds l.initial.self) (holds l.self) l.message-index l.initial.out l.out;
}
