use Rattle.lq_desk_world.proofs.StepLemmas.{refusals-leave}
use Rattle.lq_desk_world.proofs.laws.refusals_leave_worlds.Goals as goal

pub returns : goal.returns
returns c = refusals-leave
