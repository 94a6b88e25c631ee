use Rattle.lq_volume_entries.proofs.ByNode.{by_node-added, Rises-by_node}
use Rattle.lq_volume_entries.proofs.records.Records.add.Goals as goal

pub invariant_of-self : goal.invariant_of-self
invariant_of-self c = Rises-by_node _ c.insert.ensures.unique

pub returns-in-Ok-clause-ok : goal.returns-in-Ok-clause-ok
returns-in-Ok-clause-ok c = rw (← c.self.view_is) (by_node-added _ _ _ _ c.self.invariant
    (rw c.self.view_is c.requires) c.insert.ensures.unique (λ n. c.in-Ok.ensures.updates.0 n))
