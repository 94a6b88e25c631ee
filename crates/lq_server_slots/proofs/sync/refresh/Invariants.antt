-- The seat keeps its name.
use Rattle.lq_server_slots.specs.Opening.{name_or}
use Rattle.lq_server_slots.proofs.sync.refresh.Given as goal

abbrev pub ghost-meet_slot : goal.ghost-meet_slot
ghost-meet_slot a = name_or a.seat.now.name
