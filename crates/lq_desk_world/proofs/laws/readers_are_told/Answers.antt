use Rattle.lq_desk_world.proofs.HeadlineLemmas.{headline}
use Rattle.lq_desk_world.proofs.laws.readers_are_told.Goals as goal

pub returns : goal.returns
returns c =
    headline c.updates_stay.ensures c.changes_add_steps.ensures c.updates_grow.ensures
    c.changes_are_counted.ensures c.folds_give_results.ensures c.whole_folds_give_results.ensures
