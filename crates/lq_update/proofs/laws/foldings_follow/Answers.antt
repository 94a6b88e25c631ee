use Rattle.lq_update.proofs.Taking.{foldings-follow}
use Rattle.lq_update.proofs.laws.foldings_follow.Goals as goal

pub returns : goal.returns
returns c = foldings-follow
