use Rattle.lq_update.proofs.Lists.{changes-add}
use Rattle.lq_update.proofs.laws.changes_add_steps.Goals as goal

pub returns : goal.returns
returns c = changes-add
