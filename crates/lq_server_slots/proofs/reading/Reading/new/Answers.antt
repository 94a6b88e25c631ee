use Rattle.std.proofs.Common.{ap, ◌∙◌}
use Rattle.lq_update.specs.Fold.{Folding}
use Rattle.lq_server_slots.proofs.ReadLemmas.{reads_new}
use Rattle.lq_server_slots.proofs.reading.Reading.new.Goals as goal

pub invariant_of-result : goal.invariant_of-result
invariant_of-result c = (
  reads_new c.args.output c.args.rebuild c.requires.taken c.requires.opening c.requires.full
      c.requires.result,
  rw c.requires.taken,
  c.last_change-opened.ensures ∙ ap (λ (f : Folding). f.change) c.requires.result,
)
