-- A take keeps the rule, and leaves an end for takes.
use Rattle.lq_port.specs.End.{known_of}
use Rattle.lq_port.proofs.PortLemmas.{removes, empty}
use Rattle.lq_port.proofs.EndLemmas.{after_take}
use Rattle.lq_port.proofs.ends.PortOut.take.Goals as goal

pub try_recv_as-requires-clause-rule : goal.try_recv_as-requires-clause-rule
try_recv_as-requires-clause-rule g c =
    let takes = c.self.invariant.1.1 in
    (removes g.T.Follows.follows _ _ takes, empty g.T.Follows.follows _ _ takes)

pub invariant_of-self-2 : goal.invariant_of-self-2
invariant_of-self-2 g c =
    let i = c.self.invariant in
    let after = after_take g.T.Follows.follows (known_of c.self.inside.pass)
    (known_of c.try_recv_as.new.pass) c.in-Ok.item _ c.in-Ok.ensures.rule i.2 i.3 in
    (c.try_recv_as.ensures.channel.0, after.0, after.1, after.2)
