use Rattle.lq_server_slots.proofs.EndLemmas.{stands_new}
use Rattle.lq_server_slots.proofs.laws.new_subscriptions_stand.Goals as goal

pub returns : goal.returns
returns c = stands_new
