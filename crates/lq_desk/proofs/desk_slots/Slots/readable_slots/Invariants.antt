use Rattle.std.proofs.Common.{map}
use Rattle.lq_desk.proofs.ParcelLemmas.{AreAsked}
use Rattle.lq_desk.proofs.SlotsLemmas.{kept_slot}
use Rattle.lq_desk.proofs.desk_slots.Slots.readable_slots.Given as goal

abbrev pub invariant-loop-slot : goal.invariant-loop-slot
invariant-loop-slot l = record {
  asked : AreAsked (map kept_slot l.self) l.rest.word l.readable.word;
}

abbrev pub decreases-loop-slot : goal.decreases-loop-slot
decreases-loop-slot l = l.rest.word
