use Rattle.lq_update.proofs.Taking.{folds-give}
use Rattle.lq_update.proofs.laws.folds_give_results.Goals as goal

pub returns : goal.returns
returns c = folds-give c.accepted_changes_keep_trees.ensures c.changes_are_counted.ensures
