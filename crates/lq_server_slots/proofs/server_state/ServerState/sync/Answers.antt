use Rattle.lq_server_slots.proofs.ApplyLemmas.{state_kept}
use Rattle.lq_server_slots.proofs.server_state.ServerState.sync.Goals as goal

pub invariant_of-self : goal.invariant_of-self
invariant_of-self g c =
    state_kept g.N.Named.board g.N.Named.start c.self.inside.slots c.sync_at.new.slots
    c.self.inside.volume c.self.inside.seats c.self.invariant c.sync_at.ensures.keeps

pub returns-clause-progress : goal.returns-clause-progress
returns-clause-progress g c = c.sync_at.ensures.progress
