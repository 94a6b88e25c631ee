use Rattle.lq_server_slots.proofs.ReadLemmas.{change_received}
use Rattle.lq_server_slots.proofs.reading.Reading.last_change.Goals as goal

pub returns-clause-received : goal.returns-clause-received
returns-clause-received c =
    rw (c.last_change.ensures, ← c.self.view_is)
    (change_received c.foldings_follow.ensures _ c.self.invariant.0)
