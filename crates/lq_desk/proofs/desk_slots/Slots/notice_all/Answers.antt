use Rattle.std.proofs.Common.{◌∙◌, ap, sym}
use Rattle.std.proofs.lemmas.Bool.{both_ways, or_left, or_right}
use Rattle.lq_desk.specs.Slot.{KeptSlot, is_ending, noticed, slot_of}
use Rattle.lq_desk.proofs.FewLemmas.{few-there}
use Rattle.lq_desk.proofs.MarkLemmas.{places-passed, unmarked}
use Rattle.lq_desk.proofs.PassLemmas.{visits-map}
use Rattle.lq_desk.proofs.PutLemmas.{asking, noticed-keeps, noticed-quiet, noticed-still}
use Rattle.lq_desk.proofs.desk_slots.Slots.notice_all.Goals as goal

pub visit-requires : goal.visit-requires
visit-requires c = record {
  allowed = λ i x set found.
      few-there c.self.inside.table i x (rw c.self.view_is c.requires) found;
}

pub invariant_of-self : goal.invariant_of-self
invariant_of-self c =
    let n = c.args.number in
    let u = c.union-self-inside.ensures in
    places-passed _ _ _ c.self.inside.table _ _ _ c.visit.ensures.visits
    c.visit.ensures.wide _ _ _ _ c.self.inside.watch
    (λ i x y d. ap (λ (k : KeptSlot). asking k.held) d ∙ (noticed-keeps n (slot_of x)).0)
    (λ i x y set d was is. absurd (both_ways _ (noticed-still n (slot_of x))
    (ap is_ending (sym d) ∙ is)))
    (λ i none is. absurd (both_ways _ none is))
    (λ i x y set d was is. u i ∙ or_right _ _ set)
    (λ i none is. u i ∙ or_left _ _ is) c.self.invariant

pub returns : goal.returns
returns c =
    let n = c.args.number in
    let xs = c.self.inside.table in
    rw (← c.self.view_is) (visits-map _ _ _ xs _ _ _ c.visit.ensures.visits slot_of (noticed n)
    (λ i x y found set d. d) (λ i x found none. sym (noticed-quiet n (slot_of x)
    (unmarked is_ending _ xs i x c.self.invariant.ends found none))))
