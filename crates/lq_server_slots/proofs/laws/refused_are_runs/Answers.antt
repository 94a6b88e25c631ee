use Rattle.lq_server_slots.proofs.TurnRunLemmas.{refused_runs}
use Rattle.lq_server_slots.proofs.laws.refused_are_runs.Goals as goal

pub returns : goal.returns
returns c = refused_runs
