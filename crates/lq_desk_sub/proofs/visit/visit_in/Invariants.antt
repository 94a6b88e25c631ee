use Rattle.std.proofs.Common.{◌≡◌, length}
use Rattle.lq_desk_sub.proofs.VisitLemmas.{AreVisited}
use Rattle.lq_desk_sub.proofs.visit.visit_in.Given as goal

abbrev pub invariant-loop-slot : goal.invariant-loop-slot
invariant-loop-slot g l = record {
  wide : length l.slots.items ≡ 64;
  all : AreVisited (g.V.Visit.allows l.visitor) (g.V.Visit.did l.visitor) l.fn.set.word
      l.fn.slots.items l.fn.state l.rest.word l.slots.items l.state;
}

abbrev pub decreases-loop-slot : goal.decreases-loop-slot
decreases-loop-slot g l = l.rest.word
