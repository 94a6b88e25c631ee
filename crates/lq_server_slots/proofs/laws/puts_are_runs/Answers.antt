use Rattle.lq_server_slots.proofs.MoveLemmas.{puts_run}
use Rattle.lq_server_slots.proofs.laws.puts_are_runs.Goals as goal

pub returns : goal.returns
returns c = puts_run
