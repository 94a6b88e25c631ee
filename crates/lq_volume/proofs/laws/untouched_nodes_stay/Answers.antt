use Rattle.lq_volume.proofs.Keeps.{untouched-all}
use Rattle.lq_volume.proofs.laws.untouched_nodes_stay.Goals as goal

pub returns : goal.returns
returns c = untouched-all c.records_are_kept.ensures
