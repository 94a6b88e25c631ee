use Rattle.lq_volume.proofs.Keeps.{keeps-all}
use Rattle.lq_volume.proofs.laws.accepted_changes_keep_trees.Goals as goal

pub returns : goal.returns
returns c = keeps-all c.names_stay_apart.ensures c.records_are_kept.ensures
