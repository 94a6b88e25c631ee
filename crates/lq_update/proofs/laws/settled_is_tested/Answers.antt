use Rattle.lq_update.proofs.Taking.{settled-tested}
use Rattle.lq_update.proofs.laws.settled_is_tested.Goals as goal

pub returns : goal.returns
returns c = settled-tested
