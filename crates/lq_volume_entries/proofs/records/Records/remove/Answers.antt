use Rattle.std.proofs.Common.{◌∙◌, sym}
use Rattle.lq_volume_entries.proofs.ByNode.{by_node-removed, lookup-by_node, Rises-by_node}
use Rattle.lq_volume_entries.proofs.records.Records.remove.Goals as goal

pub invariant_of-self : goal.invariant_of-self
invariant_of-self c = Rises-by_node _ c.swap_remove.ensures.unique

pub returns-clause-record : goal.returns-clause-record
returns-clause-record c = rw (← c.self.view_is)
    (c.swap_remove.ensures.value ∙ sym (lookup-by_node c.self.inside.stored.entries c.args.node))

pub returns-clause-left : goal.returns-clause-left
returns-clause-left c = rw (← c.self.view_is) (by_node-removed _ _ _ c.self.invariant
    c.swap_remove.ensures.unique (λ n. c.swap_remove.ensures.updates.0 n))
