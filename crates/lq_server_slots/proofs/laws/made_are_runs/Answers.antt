use Rattle.lq_server_slots.proofs.TurnRunLemmas.{made_runs}
use Rattle.lq_server_slots.proofs.laws.made_are_runs.Goals as goal

pub returns : goal.returns
returns c = made_runs
