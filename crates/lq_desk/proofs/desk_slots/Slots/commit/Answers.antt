use Rattle.std.proofs.Common.{◌∙◌, ap, sym}
use Rattle.std.proofs.lemmas.Bool.{or_left, or_right}
use Rattle.lq_desk.specs.Slot.{PreparedSlot, is_ending, slot_after, slot_of}
use Rattle.lq_desk.proofs.PutLemmas.{asking}
use Rattle.lq_desk.proofs.FewLemmas.{few-there}
use Rattle.lq_desk.proofs.MarkLemmas.{places-passed}
use Rattle.lq_desk.proofs.PassLemmas.{visits-map}
use Rattle.lq_desk.proofs.CommitLemmas.{committed-after, none-after}
use Rattle.lq_desk.proofs.SlotsLemmas.{committed-ends}
use Rattle.lq_desk.proofs.WatchLemmas.{committed-asking}
use Rattle.lq_desk.proofs.desk_slots.Slots.commit.Goals as goal

pub visit-requires : goal.visit-requires
visit-requires c = record {
  allowed = λ i x set found.
      few-there c.self.inside.table i x (rw c.self.view_is c.requires.few) found;
}

pub invariant_of-self : goal.invariant_of-self
invariant_of-self c =
    let u = c.union-self-inside.ensures in
    places-passed _ _ _ c.self.inside.table _ _ _ c.visit.ensures.visits
    c.visit.ensures.wide _ _ _ _ c.self.inside.watch
    (λ i x y d. ap (λ (p : PreparedSlot). asking p.sub.held) d ∙ committed-asking x)
    (λ i x y set d was is. was (committed-ends x
    (ap (λ (p : PreparedSlot). is_ending (slot_of p)) (sym d) ∙ is)))
    (λ i none is. is)
    (λ i x y set d was is. u i ∙ or_right _ _ set)
    (λ i none is. u i ∙ or_left _ _ is) c.self.invariant

pub returns : goal.returns
returns c s change ready =
    let xs = c.self.inside.table in
    let are = rw (← c.self.view_is) at ready in
    rw (← c.self.view_is)
    (visits-map _ _ _ xs _ _ _ c.visit.ensures.visits slot_of (slot_after s change)
    (λ i x y found set d. ap slot_of d
    ∙ committed-after s change x (λ live. (are i x found live).some set))
    (λ i x found none. none-after s change x (λ live. (are i x found live).none none)))
