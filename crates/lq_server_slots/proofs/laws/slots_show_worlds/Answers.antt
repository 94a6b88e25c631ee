use Rattle.lq_server_slots.proofs.ShownLemmas.{slots_shown}
use Rattle.lq_server_slots.proofs.laws.slots_show_worlds.Goals as goal

pub returns : goal.returns
returns c = slots_shown
