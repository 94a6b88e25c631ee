use Rattle.lq_update.proofs.FoldLaws.{whole-folds-give}
use Rattle.lq_update.proofs.laws.whole_folds_give_results.Goals as goal

pub returns : goal.returns
returns c = whole-folds-give c.accepted_changes_keep_trees.ensures
