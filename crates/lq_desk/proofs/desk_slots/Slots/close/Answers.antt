use Rattle.std.proofs.Common.{◌≡◌, ◌<◌, ◌^◌, ap, arith, refl, Option, Some}
use Rattle.std.specs.Option.{option_map}
use Rattle.std.proofs.lemmas.Bool.{both_ways}
use Rattle.lq_desk_world.specs.Events.{Answer}
use Rattle.lq_desk.specs.Act.{close_turn}
use Rattle.lq_desk.specs.Reply.{answer_of}
use Rattle.lq_desk.specs.Slot.{KeptSlot, filled, slot_of}
use Rattle.lq_desk.proofs.FewLemmas.{few-at}
use Rattle.lq_desk.proofs.MarkLemmas.{close-rests, places-done}
use Rattle.lq_desk.proofs.PutLemmas.{close_turn-keeps, noticed-keeps}
use Rattle.lq_desk.proofs.SlotsLemmas.{done-at, refused-at, refused-past}
use Rattle.lq_desk.proofs.desk_slots.Slots.close.Goals as goal

-- what was done at the slot
did : (c : goal.After-self-2-1) → (answer_of c.close-reply.result, Some (slot_of c.fill.new.self))
    ≡ close_turn c.args.number (slot_of c.in-Some-get_mut.there.now)
did c = rw (c.fill.ensures, ← c.notice.ensures.slot)
    (ap (λ (p : Answer × Option KeptSlot). (p.0, option_map filled p.1)) c.close-reply.ensures)

pub returns-in_default : goal.returns-in_default
returns-in_default c = rw (← c.self.view_is)
    (refused-past (close_turn c.args.number) _ c.args.slot c.self.invariant.wide
    c.in_default.ensures)

pub returns-in_default-get_mut : goal.returns-in_default-get_mut
returns-in_default-get_mut c = refused-at (close_turn c.args.number) c.self.inside.table _
    c.args.slot c.in-Some.index.index c.self.view_is c.in-Some.ensures
    c.in_default-get_mut.ensures.value

pub notice-requires : goal.notice-requires
notice-requires c = few-at c.self.inside.table _ c.in-Some.index.index _ c.self.view_is
    c.in-Some-get_mut.ensures.value c.requires

pub close-reply-requires : goal.close-reply-requires
close-reply-requires c =
    let x = c.in-Some-get_mut.there.now in
    let few : x.sub.held.sent < 2 ^ 63 = few-at c.self.inside.table _ c.in-Some.index.index x
    c.self.view_is c.in-Some-get_mut.ensures.value c.requires in
    let same = ap (λ (k : KeptSlot). k.held.sent) c.notice.ensures.slot in
    omega (arith, few, same, (noticed-keeps c.args.number (slot_of x)).1)

pub invariant_of-self-2 : goal.invariant_of-self-2
invariant_of-self-2 c =
    let rests = close-rests c.args.number (slot_of c.in-Some-get_mut.there.now) in
    places-done (close_turn c.args.number) (close_turn-keeps c.args.number)
    c.self.inside.ending.word c.self.inside.movable.word _ _ c.self.inside.watch
    c.self.inside.table c.in-Some.index.index _ (Some c.fill.new.self) _
    c.in-Some-get_mut.ensures.value (did c)
    (λ i ne. refl) (λ _ is. absurd (both_ways _ rests.0 is))
    (λ i ne. refl) (λ _ is. absurd (both_ways _ rests.1 is)) c.self.invariant

pub returns : goal.returns
returns c = done-at (close_turn c.args.number) c.self.inside.table _ c.args.slot
    c.in-Some.index.index _ (Some c.fill.new.self) _ c.self.view_is c.in-Some.ensures
    c.in-Some-get_mut.ensures.value (did c)
