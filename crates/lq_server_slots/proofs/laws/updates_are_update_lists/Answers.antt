use Rattle.lq_server_slots.proofs.UpdateLemmas.{updates_are}
use Rattle.lq_server_slots.proofs.laws.updates_are_update_lists.Goals as goal

pub returns : goal.returns
returns c = updates_are
