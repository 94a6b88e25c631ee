use Rattle.std.proofs.Common.{◌∙◌, ap, map, Some}
use Rattle.std.proofs.lemmas.List.{map-set}
use Rattle.lq_desk.specs.Slot.{PreparedSlot, slot_of}
use Rattle.lq_desk.proofs.MarkLemmas.{places-set}
use Rattle.lq_desk.proofs.SlotsLemmas.{kept_slot}
use Rattle.lq_desk.proofs.WatchLemmas.{watched-set}
use Rattle.lq_desk.proofs.desk_slots.Slots.open.Goals as goal

pub returns : goal.returns
returns c = rw (c.insert.ensures, c.self.view_is)

pub invariant_of-self : goal.invariant_of-self
invariant_of-self c =
    let ks = map kept_slot c.self.inside.table in
    let k = slot_of c.args.slot in
    let i = c.args.index.index in
    let sub = ap (λ (p : PreparedSlot). p.sub) c.slot.view_is in
    rw (c.insert.ensures, map-set kept_slot c.self.inside.table i (Some c.args.slot))
    (places-set c.self.inside.ending.word c.self.inside.movable.word _ _ c.self.inside.watch _ ks
    i (Some k) c.put.ensures.others
    (λ is. c.put.ensures.here ∙ (c.is_ending.ensures ∙ is))
    c.put-2.ensures.others
    (λ is. c.put-2.ensures.here ∙ (c.can_move.ensures ∙ is))
    (watched-set c.self.inside.watch _ ks i k
    (rw sub at c.set.ensures.here) c.set.ensures.others c.self.invariant.watched)
    c.self.invariant)
