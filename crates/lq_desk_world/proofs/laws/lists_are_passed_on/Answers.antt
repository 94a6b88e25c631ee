use Rattle.lq_desk_world.proofs.TakenLemmas.{lists-passed}
use Rattle.lq_desk_world.proofs.laws.lists_are_passed_on.Goals as goal

pub returns : goal.returns
returns c = lists-passed
