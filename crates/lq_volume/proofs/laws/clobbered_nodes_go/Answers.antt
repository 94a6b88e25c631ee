use Rattle.lq_volume.proofs.Keeps.{clobbered-go}
use Rattle.lq_volume.proofs.laws.clobbered_nodes_go.Goals as goal

pub returns : goal.returns
returns c = clobbered-go c.records_are_kept.ensures
