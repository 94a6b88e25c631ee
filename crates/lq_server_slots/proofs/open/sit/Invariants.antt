-- The seat goes out under the caller's name.
use Rattle.lq_server_slots.proofs.open.sit.Given as goal

abbrev pub ghost-slot_seat_by : goal.ghost-slot_seat_by
ghost-slot_seat_by g a = g.name
