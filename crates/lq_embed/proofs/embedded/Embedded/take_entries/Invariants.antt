use Rattle.std.proofs.Common.{◌≡◌}
use Rattle.lq_embed.specs.SessionState.{holds}
use Rattle.lq_embed.proofs.RowLemmas.{AreGiven}
use Rattle.lq_embed.proofs.embedded.Embedded.take_entries.Given as goal

abbrev pub invariant-loop-row : goal.invariant-loop-row
invariant-loop-row l = record {
  count : l.count ≡ l.row-index;
  given : AreGiven (holds l.initial.self) (holds l.self) l.row-index l.initial.out l.out;
}
