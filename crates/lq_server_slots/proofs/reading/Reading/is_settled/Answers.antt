use Rattle.std.proofs.Common.{sym, ◌∙◌}
use Rattle.lq_server_slots.proofs.ReadLemmas.{settled_received, settled_result}
use Rattle.lq_server_slots.proofs.reading.Reading.is_settled.Goals as goal

pub returns-clause-received : goal.returns-clause-received
returns-clause-received c =
    rw (c.is_settled.ensures, ← c.self.view_is)
    (settled_received c.foldings_follow.ensures c.settled_is_tested.ensures _
    c.self.invariant.0)

pub returns-clause-whole : goal.returns-clause-whole
returns-clause-whole c = λ yes.
    rw (← c.self.view_is)
    (settled_result c.folds_give_results.ensures c.foldings_follow.ensures
    c.settled_is_tested.ensures _ c.self.invariant.0
    (sym c.is_settled.ensures ∙ yes))
