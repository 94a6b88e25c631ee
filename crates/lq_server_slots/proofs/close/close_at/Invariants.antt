-- The seat gets the name of the subscription that is passed.
use Rattle.lq_server_slots.specs.Identity.{identity_of}
use Rattle.lq_server_slots.proofs.close.close_at.Given as goal

abbrev pub ghost-refresh_slot : goal.ghost-refresh_slot
ghost-refresh_slot a = identity_of a.slot.now
