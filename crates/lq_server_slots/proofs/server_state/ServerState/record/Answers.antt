use Rattle.lq_server_slots.proofs.ApplyLemmas.{state_kept}
use Rattle.lq_server_slots.proofs.server_state.ServerState.record.Goals as goal

pub invariant_of-self : goal.invariant_of-self
invariant_of-self g c =
    state_kept g.N.Named.board g.N.Named.start c.self.inside.slots c.record_at.new.slots
    c.self.inside.volume c.self.inside.seats c.self.invariant c.record_at.ensures.keeps
