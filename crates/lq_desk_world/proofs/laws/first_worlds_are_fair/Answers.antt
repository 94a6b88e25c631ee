use Rattle.lq_desk_world.proofs.StepLemmas.{free-fair}
use Rattle.lq_desk_world.proofs.laws.first_worlds_are_fair.Goals as goal

pub returns : goal.returns
returns c = λ b. record { each = free-fair b 64 }
