use Rattle.lq_update.proofs.Taking.{rebuilds-take}
use Rattle.lq_update.proofs.laws.rebuilds_take_all.Goals as goal

pub returns : goal.returns
returns c = rebuilds-take c.accepted_changes_keep_trees.ensures c.changes_are_counted.ensures
