use Rattle.lq_desk_world.proofs.TurnLemmas.{turns-fill}
use Rattle.lq_desk_world.proofs.laws.turns_fill_ports.Goals as goal

pub returns : goal.returns
returns c = turns-fill c.updates_stay.ensures c.changes_add_steps.ensures
