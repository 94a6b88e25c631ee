use Rattle.lq_update.proofs.ValueLaws.{values-shown}
use Rattle.lq_update.proofs.laws.values_are_shown.Goals as goal

pub returns : goal.returns
returns c = values-shown c.accepted_changes_keep_trees.ensures c.changes_are_counted.ensures
