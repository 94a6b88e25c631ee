use Rattle.lq_update.proofs.PassingOver.{changes-pass}
use Rattle.lq_update.proofs.laws.changes_pass_over.Goals as goal

pub returns : goal.returns
returns c = changes-pass c.values_are_found.ensures
