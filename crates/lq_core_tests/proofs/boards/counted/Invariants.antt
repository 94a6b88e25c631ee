-- The name of the slot's subscription.
use Rattle.lq_core_tests.proofs.boards.counted.Given as goal

abbrev pub ghost-slot_seat_by : goal.ghost-slot_seat_by
ghost-slot_seat_by a = 0
