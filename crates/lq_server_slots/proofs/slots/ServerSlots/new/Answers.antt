use Rattle.lq_server_slots.proofs.TableLemmas.{slots_free}
use Rattle.lq_server_slots.proofs.slots.ServerSlots.new.Goals as goal

pub returns-clause-holding : goal.returns-clause-holding
returns-clause-holding c =
    slots_free c.args.keeper c.in_ok-subscriptions.subscriptions _ c.args.keeper.book
    c.requires.unused c.in_ok-subscriptions.ensures.free
