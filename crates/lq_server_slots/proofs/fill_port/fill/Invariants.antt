use Rattle.std.proofs.Common.{◌≤◌, length}
use Rattle.lq_server_slots.specs.Standing.{IsConsistentAt, SameButPuts, left_to_put}
use Rattle.lq_server_slots.specs.Turn.{GainsParcels}
use Rattle.lq_server_slots.proofs.fill_port.fill.Given as goal

abbrev pub invariant-loop-slot : goal.invariant-loop-slot
invariant-loop-slot g l = IsConsistentAt l.slot l.keeper.book × SameButPuts l.initial.slot l.slot
    × (length l.initial.slot.input.taken ≤ length l.slot.input.taken)
    × GainsParcels l.initial.slot.input l.slot.input

abbrev pub decreases-loop-slot : goal.decreases-loop-slot
decreases-loop-slot g l = left_to_put l.slot
