use Rattle.std.proofs.Common.{◌≡◌}
use Rattle.lq_server_slots.specs.Standing.{left_to_put}
use Rattle.lq_server_slots.proofs.PutLemmas.{Drains}
use Rattle.lq_server_slots.proofs.fill_port.drain.Given as goal

abbrev pub invariant-loop-slot : goal.invariant-loop-slot
invariant-loop-slot g l =
    Drains l.fn.slot l.slot l.fn.reading.port l.reading.port l.keeper.book
    × (l.reading.hand ≡ l.fn.reading.hand) × (l.reading.result ≡ l.fn.reading.result)

abbrev pub decreases-loop-slot : goal.decreases-loop-slot
decreases-loop-slot g l = left_to_put l.slot
