use Rattle.std.proofs.Common.{◌≡◌, ap, length}
use Rattle.lq_volume_entries.proofs.AttributeLemmas.{HasOwnNames-keys, list-ends}
use Rattle.lq_volume_entries.proofs.attr_table.listed.Goals as goal

pub returns-clause-own : goal.returns-clause-own
returns-clause-own c =
    let all : c.loop-attr.list.items ≡ c.args.map.now.entries =
    list-ends _ _ _ (ap length c.in-None.ensures.steps.0) c.loop-attr.invariant in
    rw all (HasOwnNames-keys _ c.len.ensures.unique)
