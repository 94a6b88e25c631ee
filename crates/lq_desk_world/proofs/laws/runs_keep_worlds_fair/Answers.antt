use Rattle.lq_desk_world.proofs.StepLemmas.{run-fair}
use Rattle.lq_desk_world.proofs.laws.runs_keep_worlds_fair.Goals as goal

pub returns : goal.returns
returns c = run-fair c.updates_stay.ensures c.changes_add_steps.ensures
