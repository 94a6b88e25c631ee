use Rattle.std.proofs.Common.{◌∙◌, ap, sym}
use Rattle.std.proofs.lemmas.Bool.{both_ways}
use Rattle.lq_desk.specs.Slot.{KeptSlot, can_move, filled, is_ending, slot_of}
use Rattle.lq_desk.proofs.MarkLemmas.{places-passed, unmarked}
use Rattle.lq_desk.proofs.PassLemmas.{visits-map}
use Rattle.lq_desk.proofs.PutLemmas.{asking, filled-ends, filled-quiet, filled-still, puts-keep}
use Rattle.lq_desk.proofs.desk_slots.Slots.fill_all.Goals as goal

pub invariant_of-self : goal.invariant_of-self
invariant_of-self c =
    places-passed _ _ _ c.self.inside.table _ _ _ c.visit.ensures.visits
    c.visit.ensures.wide _ _ _ _ c.self.inside.watch
    (λ i x y d. ap (λ (k : KeptSlot). asking k.held) d ∙ (puts-keep x.port (slot_of x)).asks)
    (λ i x y set d was is. was (sym (filled-ends (slot_of x)) ∙ (ap is_ending (sym d) ∙ is)))
    (λ i none is. is)
    (λ i x y set d was is.
    absurd (both_ways _ (filled-still (slot_of x)) (ap can_move (sym d) ∙ is)))
    (λ i none is. absurd (both_ways _ none is)) c.self.invariant

pub returns : goal.returns
returns c =
    let xs = c.self.inside.table in
    rw (← c.self.view_is) (visits-map _ _ _ xs _ _ _ c.visit.ensures.visits slot_of filled
    (λ i x y found set d. d) (λ i x found none. sym (filled-quiet (slot_of x)
    (unmarked can_move _ xs i x c.self.invariant.moves found none))))
