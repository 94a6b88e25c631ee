use Rattle.lq_desk.proofs.Shown.{moves, refused-stays}
use Rattle.lq_desk.proofs.desk.Desk.event.Goals as goal

pub invariant_of-self : goal.invariant_of-self
invariant_of-self c = rw (c.step-self-inside.ensures, c.self.view_is)
    ((moves c.kept_shows_worlds.ensures c.refusals_leave_worlds.ensures _ _ _ _ _
    c.answer_event-reply.ensures (rw c.self.view_is at c.self.invariant)).1)

pub returns-clause-world : goal.returns-clause-world
returns-clause-world c = rw (c.step-self-inside.ensures, c.self.view_is)
    ((moves c.kept_shows_worlds.ensures c.refusals_leave_worlds.ensures _ _ _ _ _
    c.answer_event-reply.ensures (rw c.self.view_is at c.self.invariant)).0)

pub returns-clause-refused : goal.returns-clause-refused
returns-clause-refused c = λ refusal is.
    refused-stays c.refusals_leave_worlds.ensures _ _ _ _ refusal (returns-clause-world c) is
