use Rattle.std.proofs.Common.{◌∙◌, sym}
use Rattle.lq_volume_entries.proofs.ByNode.{length-by_node}
use Rattle.lq_volume_entries.proofs.records.Records.len.Goals as goal

pub returns : goal.returns
returns c = rw (← c.self.view_is)
    (c.len.ensures.len ∙ sym (length-by_node c.self.inside.stored.entries))
