use Rattle.lq_script_desk.proofs.SessionLemmas.{sessions}
use Rattle.lq_script_desk.proofs.laws.sessions_tell_readers.Goals as goal

pub returns : goal.returns
returns c =
    sessions c.readers_are_told.ensures c.rebuilds_take_all.ensures c.foldings_follow.ensures
