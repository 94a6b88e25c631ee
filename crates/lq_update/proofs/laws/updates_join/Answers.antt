use Rattle.lq_update.proofs.Lists.{updates-join}
use Rattle.lq_update.proofs.laws.updates_join.Goals as goal

pub returns : goal.returns
returns c = updates-join
