use Rattle.lq_desk.proofs.TurnLemmas.{turn-went}
use Rattle.lq_desk.proofs.desk.Desk.turn.Goals as goal

pub invariant_of-self : goal.invariant_of-self
invariant_of-self c = rw (c.turn-self-inside.ensures, c.self.view_is)
    ((turn-went c.kept_shows_worlds.ensures c.refusals_leave_worlds.ensures _ _ _ _ _
    c.carry_out_turn-reply.ensures (rw c.self.view_is at c.self.invariant)).shows)

pub returns-clause-outcome : goal.returns-clause-outcome
returns-clause-outcome c = rw (c.turn-self-inside.ensures, c.self.view_is)
    ((turn-went c.kept_shows_worlds.ensures c.refusals_leave_worlds.ensures _ _ _ _ _
    c.carry_out_turn-reply.ensures (rw c.self.view_is at c.self.invariant)).outcome)

pub returns-clause-run : goal.returns-clause-run
returns-clause-run c = rw (c.turn-self-inside.ensures, c.self.view_is)
    ((turn-went c.kept_shows_worlds.ensures c.refusals_leave_worlds.ensures _ _ _ _ _
    c.carry_out_turn-reply.ensures (rw c.self.view_is at c.self.invariant)).runs)
