use Rattle.std.proofs.Common.{refl}
use Rattle.lq_server_slots.proofs.sync.report_after.Goals as goal

pub returns-in-None : goal.returns-in-None
returns-in-None c = rw c.in-None.is refl

pub returns-in-Some : goal.returns-in-Some
returns-in-Some c = rw c.in-Some.is refl
