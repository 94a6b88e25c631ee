use Rattle.std.proofs.Common.{◌∙◌, ap}
use Rattle.lq_desk.specs.Slot.{fresh_slot}
use Rattle.lq_desk.specs.DeskState.{DeskState, opened}
use Rattle.lq_desk.proofs.Desks.{IsKept-open, opened-is}
use Rattle.lq_desk.proofs.engine.Engine.open.Goals as goal

pub invariant_of-self : goal.invariant_of-self
invariant_of-self c =
    let same = rw c.changes-at.ensures.number at c.in_ok-slot.ensures.value in
    rw (opened-is c.self.inside.volume c.self.inside.openings c.self.inside.slots c.open.new.self
    c.in-Some.index.index c.in_ok-slot.slot _ c.open.ensures c.in-Some.ensures same)
    (IsKept-open _ c.args.predicate.now c.args.options.now c.self.invariant)

pub returns-clause-ok : goal.returns-clause-ok
returns-clause-ok c =
    let same = rw c.changes-at.ensures.number at c.in_ok-slot.ensures.value in
    opened-is c.self.inside.volume c.self.inside.openings c.self.inside.slots c.open.new.self
    c.in-Some.index.index c.in_ok-slot.slot _ c.open.ensures c.in-Some.ensures same
    ∙ ap (λ (j : DeskState). opened j (fresh_slot c.args.predicate.now j.volume.number
    c.args.options.now)) c.self.view_is
