-- The seat has the caller's name.
use Rattle.lq_server_slots.proofs.sync.refresh_slot.Given as goal

abbrev pub ghost-meet_slot : goal.ghost-meet_slot
ghost-meet_slot g a = g.name
