use Rattle.lq_desk_world.proofs.TurnLemmas.{turns-until}
use Rattle.lq_desk_world.proofs.laws.turns_put_until_still.Goals as goal

pub returns : goal.returns
returns c = turns-until c.updates_stay.ensures c.changes_add_steps.ensures
