-- A put keeps the rule, tells where the port is full, and leaves an end for puts.
use Rattle.lq_port.specs.End.{known_of}
use Rattle.lq_port.proofs.PortLemmas.{adds, full}
use Rattle.lq_port.proofs.EndLemmas.{after_put}
use Rattle.lq_port.proofs.ends.PortIn.put.Goals as goal

pub try_send_as-requires-clause-rule : goal.try_send_as-requires-clause-rule
try_send_as-requires-clause-rule g c =
    let follows = g.T.Follows.follows in
    let puts = c.self.invariant.1.0 in (
      adds follows _ _ _ _ puts c.self.invariant.4 (rw (← c.self.view_is) at c.requires.follows),
      full follows _ _ puts,
    )

pub invariant_of-self : goal.invariant_of-self
invariant_of-self g c =
    let i = c.self.invariant in
    let after = after_put g.T.Follows.follows (known_of c.self.inside.pass)
    (known_of c.try_send_as.new.pass) c.args.item _ _ c.in-Ok.ensures.rule i.2 i.3
    (rw (← c.self.view_is) at c.requires.follows) i.4 in
    (c.try_send_as.ensures.channel.0, after.0, after.1, after.2, after.3, after.4)
