use Rattle.lq_volume_entries.proofs.AttributeLemmas.{HasOwnNames-with}
use Rattle.lq_volume_entries.proofs.attr_table.AttrTable.set.Goals as goal

pub invariant_of-self : goal.invariant_of-self
invariant_of-self c =
    rw c.in_ok-put-in-None.ensures.ok (HasOwnNames-with _ _ _ c.self.invariant)
