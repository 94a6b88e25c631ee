use Rattle.lq_desk.proofs.MarkLemmas.{places-none}
use Rattle.lq_desk.proofs.desk_slots.Slots.new.Goals as goal

pub invariant_of-result : goal.invariant_of-result
invariant_of-result c = rw c.in_ok-new.ensures.free (places-none _ _ _)
