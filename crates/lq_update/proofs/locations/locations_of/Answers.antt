use Rattle.std.proofs.Common.{ap, ◌∙◌, arith}
use Rattle.lq_update.specs.Locations.{entries_of}
use Rattle.lq_update.proofs.LocationLemmas.{insert-next}
use Rattle.lq_update.proofs.locations.locations_of.Goals as goal

pub loop-entry-preserved : goal.loop-entry-preserved
loop-entry-preserved c = ap entries_of c.in_ok-insert.ensures.entries
    ∙ rw c.in_ok-location.ensures.value (insert-next _ c.args.entries.now c.loop-entry.entry-index
    c.entry-item.result c.requires (omega arith) c.entry-item.is c.loop-entry.invariant)
