use Rattle.std.proofs.Common.{◌≡◌, ◌∙◌, ap, refl, false, Some}
use Rattle.std.proofs.lemmas.Bool.{both_ways, false_from_ne_true}
use Rattle.lq_desk.specs.Act.{read_turn}
use Rattle.lq_desk.specs.Reply.{answer_of_read}
use Rattle.lq_desk.specs.Slot.{PreparedSlot, filled, has_work, read_slot, slot_of}
use Rattle.lq_desk.proofs.FewLemmas.{few-at}
use Rattle.lq_desk.proofs.MarkLemmas.{places-done, read-ends, work-marked}
use Rattle.lq_desk.proofs.PutLemmas.{read_turn-keeps}
use Rattle.lq_desk.proofs.SlotsLemmas.{done-at, kept-there, read-quiet, refused-at, refused-past, taken-there}
use Rattle.lq_desk.proofs.desk_slots.Slots.read.Goals as goal
use Rattle.lq_desk.proofs.desk_slots.Slots.read.Goals.{else-may_work, then-may_work}

-- what was done at the slot
did : (c : goal.After-put)
    → (answer_of_read c.read-read.result, Some (slot_of c.read-read.new.self))
    ≡ read_turn c.args.number (slot_of c.in-Some-get_mut.there.now)
did c =
    let i = c.in-Some.index.index in
    let x = c.in-Some-get_mut.there.now in
    let xs = c.self.inside.table in
    c.read-read.ensures ∙ elim c.if-may_work.branch [
      | then-may_work w ↦ ap (λ (y : PreparedSlot). read_slot (slot_of y)) w.there-is
          ∙ ap read_slot (w.fill.ensures ∙ ap filled w.notice.ensures.slot)
      | else-may_work w ↦
          let quiet : has_work (slot_of x) ≡ false = false_from_ne_true (has_work (slot_of x))
          (λ works. both_ways _ w.if-may_work.false (c.contains-may_work.ensures
          ∙ (c.union.ensures i ∙ work-marked c.self.inside.ending.word
          c.self.inside.movable.word c.self.inside.watch _ i (slot_of x) c.self.invariant
          (kept-there xs i x (taken-there xs i x c.in-Some-get_mut.ensures.value)) works))) in
          ap (λ (y : PreparedSlot). read_slot (slot_of y)) w.there-is
          ∙ read-quiet c.args.number (slot_of x) quiet
    ]

pub returns-in_default : goal.returns-in_default
returns-in_default c = rw (← c.self.view_is)
    (refused-past (read_turn c.args.number) _ c.args.slot c.self.invariant.wide
    c.in_default.ensures)

pub returns-in_default-get_mut : goal.returns-in_default-get_mut
returns-in_default-get_mut c = refused-at (read_turn c.args.number) c.self.inside.table _
    c.args.slot c.in-Some.index.index c.self.view_is c.in-Some.ensures
    c.in_default-get_mut.ensures.value

pub notice-requires : goal.notice-requires
notice-requires c = few-at c.self.inside.table _ c.in-Some.index.index _ c.self.view_is
    c.in-Some-get_mut.ensures.value c.requires

pub invariant_of-self-2 : goal.invariant_of-self-2
invariant_of-self-2 c =
    let rests = read-ends c.args.number (slot_of c.in-Some-get_mut.there.now) in
    places-done (read_turn c.args.number) (read_turn-keeps c.args.number)
    c.self.inside.ending.word c.self.inside.movable.word _ _ c.self.inside.watch
    c.self.inside.table c.in-Some.index.index _ (Some c.read-read.new.self) _
    c.in-Some-get_mut.ensures.value (did c)
    (λ i ne. refl) (λ _ is. absurd (both_ways _ rests is)) c.put.ensures.others
    (λ is _. c.put.ensures.here ∙ (c.can_move.ensures ∙ is)) c.self.invariant

pub returns : goal.returns
returns c = done-at (read_turn c.args.number) c.self.inside.table _ c.args.slot
    c.in-Some.index.index _ (Some c.read-read.new.self) _ c.self.view_is c.in-Some.ensures
    c.in-Some-get_mut.ensures.value (did c)
