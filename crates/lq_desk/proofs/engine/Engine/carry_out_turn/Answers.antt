use Rattle.std.proofs.Common.{refl, inl, inr}
use Rattle.lq_desk_world.specs.declared.event.Event.TheVariants.{Open, OpenBy, Put, HangUp, Notice, Finish}
use Rattle.lq_desk.specs.Act.{close_turn, read_turn}
use Rattle.lq_desk.specs.Slot.{filled, noticed}
use Rattle.lq_desk.proofs.Desks.{IsKept-at, IsKept-map, at-view, few-desk, filled-view, noticed-view}
use Rattle.lq_desk.proofs.PutLemmas.{close_turn-keeps, noticed-keeps, puts-keep, read_turn-keeps}
use Rattle.lq_desk.proofs.TurnLemmas.{alone-turn, change-turn, close-step, read-step}
use Rattle.lq_desk.proofs.engine.Engine.carry_out_turn.Goals as goal

pub notice_all-requires : goal.notice_all-requires
notice_all-requires c = few-desk _ c.changes-number.ensures.volume c.self.invariant

pub read-requires : goal.read-requires
read-requires c = few-desk _ c.changes-number.ensures.volume c.self.invariant

pub close-requires : goal.close-requires
close-requires c = few-desk _ c.changes-number.ensures.volume c.self.invariant

pub invariant_of-self : goal.invariant_of-self
invariant_of-self c = IsKept-map _ (noticed c.changes-number.result) _
    (λ s. (noticed-keeps c.changes-number.result s).1) c.self.invariant c.notice_all.ensures

pub invariant_of-self-in-Change-1 : goal.invariant_of-self-in-Change-1
invariant_of-self-in-Change-1 c = IsKept-map _ filled _ (λ s. (puts-keep s.port s).sent)
    c.self-in-Change.invariant c.fill_all.ensures

pub invariant_of-self-in-Take-1 : goal.invariant_of-self-in-Take-1
invariant_of-self-in-Take-1 c = IsKept-at _ c.in-Take.slot _ _ _
    (read_turn-keeps c.changes-number.result) c.self.invariant c.read.ensures

pub invariant_of-self-in-Close-1 : goal.invariant_of-self-in-Close-1
invariant_of-self-in-Close-1 c = IsKept-at _ c.in-Close.slot _ _ _
    (close_turn-keeps c.changes-number.result) c.self.invariant c.close.ensures

pub returns-in-Change : goal.returns-in-Change
returns-in-Change c =
    let step = c.answer_event-reply.ensures in
    rw c.in-Change.is (change-turn c.args.self.now _ c.answer_event-reply.new.self _
    c.in-Change.field-0 _ (noticed-view _ _ _ _ c.self.view_is c.changes-number.ensures.number
    c.notice_all.ensures) (rw c.in-Change.is at step)
    (filled-view _ _ _ c.self-in-Change.view_is c.fill_all.ensures))

pub returns-in-Take : goal.returns-in-Take
returns-in-Take c = rw c.in-Take.is (read-step c.args.self.now _ c.in-Take.slot _
    (at-view read_turn _ _ _ c.in-Take.slot _ _ c.self.view_is c.changes-number.ensures.number
    c.read.ensures))

pub returns-in-Close : goal.returns-in-Close
returns-in-Close c = rw c.in-Close.is (close-step c.args.self.now _ c.in-Close.slot _
    (at-view close_turn _ _ _ c.in-Close.slot _ _ c.self.view_is c.changes-number.ensures.number
    c.close.ensures))

pub returns-in-Open : goal.returns-in-Open
returns-in-Open c =
    let k = c.args.self.now in
    let l = c.answer_event.new.self in
    let e = c.args.event.now in
    let step = c.answer_event.ensures in
    elim c.in-Open.is [
      | inl o ↦ alone-turn k l e (Open o.0 o.1 o.2 o.3) _ o.4 refl refl step
      | inr p ↦ elim p [
        | inl o ↦ alone-turn k l e (OpenBy o.0 o.1) _ o.2 refl refl step
        | inr p ↦ elim p [
          | inl o ↦ alone-turn k l e (Put o.0) _ o.1 refl refl step
          | inr p ↦ elim p [
            | inl o ↦ alone-turn k l e (HangUp o.0) _ o.1 refl refl step
            | inr p ↦ elim p [
              | inl o ↦ alone-turn k l e (Notice o.0) _ o.1 refl refl step
              | inr o ↦ alone-turn k l e (Finish o.0) _ o.1 refl refl step
            ]
          ]
        ]
      ]
    ]
