use Rattle.std.proofs.Common.{◌∙◌, sym}
use Rattle.lq_volume_entries.proofs.ByNode.{lookup-by_node}
use Rattle.lq_volume_entries.proofs.records.Records.get.Goals as goal

pub returns-clause-record : goal.returns-clause-record
returns-clause-record c = rw (← c.self.view_is)
    (c.get.ensures.value ∙ sym (lookup-by_node c.self.inside.stored.entries c.args.node))
