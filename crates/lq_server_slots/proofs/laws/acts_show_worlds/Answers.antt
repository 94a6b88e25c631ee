use Rattle.lq_server_slots.proofs.ShownLemmas.{acts_shown}
use Rattle.lq_server_slots.proofs.laws.acts_show_worlds.Goals as goal

pub returns : goal.returns
returns c = acts_shown
