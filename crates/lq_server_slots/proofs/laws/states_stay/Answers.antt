use Rattle.lq_server_slots.proofs.UpdateLemmas.{state_stays}
use Rattle.lq_server_slots.proofs.laws.states_stay.Goals as goal

pub returns : goal.returns
returns c = state_stays
