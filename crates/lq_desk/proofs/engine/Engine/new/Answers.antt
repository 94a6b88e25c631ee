use Rattle.lq_desk.proofs.Desks.{IsKept-new}
use Rattle.lq_desk.proofs.engine.Engine.new.Goals as goal

pub invariant_of-result : goal.invariant_of-result
invariant_of-result c = rw c.in_ok-new.ensures.slots (IsKept-new c.args.volume)
