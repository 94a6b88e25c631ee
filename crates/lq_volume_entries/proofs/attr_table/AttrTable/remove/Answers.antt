use Rattle.lq_volume_entries.proofs.AttributeLemmas.{HasOwnNames-without, without_attr-removed}
use Rattle.lq_volume_entries.proofs.attr_table.AttrTable.remove.Goals as goal

pub invariant_of-self : goal.invariant_of-self
invariant_of-self c = rw c.take_out.ensures (HasOwnNames-without _ _ c.self.invariant)

pub returns-in-Some : goal.returns-in-Some
returns-in-Some c =
    let removed = c.shift_remove.ensures in
    rw (← c.self.view_is, c.in-Some.is, ← c.deref_mut.ensures.value)
    (without_attr-removed c.deref_mut.result.now.entries c.shift_remove.new.self.entries
    c.args.attr.now removed.entries removed.updates.1)
