use Rattle.lq_update.proofs.FoldLaws.{messages-fit}
use Rattle.lq_update.proofs.laws.messages_fit_in.Goals as goal

pub returns : goal.returns
returns c = messages-fit c.accepted_changes_keep_trees.ensures
