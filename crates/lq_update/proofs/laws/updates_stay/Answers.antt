use Rattle.lq_update.proofs.Lists.{updates-stay}
use Rattle.lq_update.proofs.laws.updates_stay.Goals as goal

pub returns : goal.returns
returns c = updates-stay
