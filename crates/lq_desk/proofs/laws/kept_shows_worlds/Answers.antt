use Rattle.lq_desk.proofs.Shown.{kept-shows}
use Rattle.lq_desk.proofs.laws.kept_shows_worlds.Goals as goal

pub returns : goal.returns
returns c =
    kept-shows c.changes_are_counted.ensures c.updates_stay.ensures c.changes_add_steps.ensures
    c.runs_keep_worlds_fair.ensures
