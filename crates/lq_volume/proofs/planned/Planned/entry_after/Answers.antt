use Rattle.std.proofs.Common.{◌∙◌, sym}
use Rattle.lq_volume.proofs.Keeps.{record-left}
use Rattle.lq_volume.proofs.planned.Planned.entry_after.Goals as goal

pub returns : goal.returns
returns c = rw (← c.self.view_is) (c.as_ref.ensures.value
    ∙ (c.self.invariant.after
    ∙ sym (record-left c.records_are_kept.ensures _ _ c.self.invariant.volume)))
