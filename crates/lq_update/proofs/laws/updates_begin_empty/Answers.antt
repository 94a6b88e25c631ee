use Rattle.lq_update.proofs.Lists.{updates-none}
use Rattle.lq_update.proofs.laws.updates_begin_empty.Goals as goal

pub returns : goal.returns
returns c = updates-none
