use Rattle.lq_volume.proofs.Touches.{counted}
use Rattle.lq_volume.proofs.laws.changes_are_counted.Goals as goal

pub returns : goal.returns
returns c = counted
