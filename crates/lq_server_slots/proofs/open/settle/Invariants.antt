-- The seat goes out under the name of the subscription that is passed.
use Rattle.lq_server_slots.specs.Identity.{identity_of}
use Rattle.lq_server_slots.proofs.open.settle.Given as goal

abbrev pub ghost-sit : goal.ghost-sit
ghost-sit a = identity_of a.slot.now
