use Rattle.lq_server_slots.proofs.ApplyLemmas.{state_kept}
use Rattle.lq_server_slots.proofs.server_state.ServerState.hear.Goals as goal

pub invariant_of-self : goal.invariant_of-self
invariant_of-self g c =
    state_kept g.N.Named.board g.N.Named.start c.self.inside.slots c.hear_at.new.slots
    c.self.inside.volume c.self.inside.seats c.self.invariant c.hear_at.ensures.keeps
