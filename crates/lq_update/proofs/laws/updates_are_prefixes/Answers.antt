use Rattle.lq_update.proofs.Lists.{updates-prefixes}
use Rattle.lq_update.proofs.laws.updates_are_prefixes.Goals as goal

pub returns : goal.returns
returns c = updates-prefixes
