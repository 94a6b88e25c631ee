use Rattle.lq_update.proofs.ValueLemmas.{quiet-keep}
use Rattle.lq_update.proofs.laws.quiet_changes_keep_matches.Goals as goal

pub returns : goal.returns
returns c = quiet-keep c.accepted_changes_keep_trees.ensures
