use Rattle.lq_update.proofs.PassingOver.{bare-creates}
use Rattle.lq_update.proofs.laws.bare_creates_tell_nothing.Goals as goal

pub returns : goal.returns
returns c = bare-creates c.bare_rows_fail.ensures c.changes_touch_few.ensures
