use Rattle.lq_desk_world.proofs.OpeningLemmas.{reads-passed}
use Rattle.lq_desk_world.proofs.laws.reads_are_passed_on.Goals as goal

pub returns : goal.returns
returns c = reads-passed c.updates_stay.ensures c.changes_add_steps.ensures
