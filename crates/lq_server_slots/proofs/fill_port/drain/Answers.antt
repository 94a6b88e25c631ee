use Rattle.std.proofs.Common.{arith, rules}
use Rattle.std.proofs.lemmas.Grind.{common_steps}
use Rattle.lq_server_slots.proofs.PutLemmas.{looks, drains_on, beside_stays, stuck_drained, drains_none}
use Rattle.lq_server_slots.proofs.fill_port.drain.Goals as goal

pub loop-slot-init : goal.loop-slot-init
loop-slot-init g c = search (rules, arith, drains_none)

pub loop-slot-smaller : goal.loop-slot-smaller
loop-slot-smaller g c = c.if-not-put_one.ensures.moved

pub loop-slot-preserved : goal.loop-slot-preserved
loop-slot-preserved g c = search (rules, arith, drains_on)

pub returns-then-waiting-slot-clause-between : goal.returns-then-waiting-slot-clause-between
returns-then-waiting-slot-clause-between g c = search (rules, arith, looks)

pub returns-then-waiting-slot-clause-drained : goal.returns-then-waiting-slot-clause-drained
returns-then-waiting-slot-clause-drained g c = grind (arith, common_steps)

pub returns-then-not-put_one-clause-between : goal.returns-then-not-put_one-clause-between
returns-then-not-put_one-clause-between g c =
    let b = c.beside-waiting.ensures in
    beside_stays _ _ _ _ _ _ _
    (looks _ _ _ _ c.beside-waiting.new.self.port c.beside-waiting.new.input _
    c.beside-waiting.result c.loop-slot.invariant.0 b.beside)
    c.put_one.ensures.stands c.put_one.ensures.alike c.if-not-put_one.ensures.moved.0

pub returns-then-not-put_one-clause-drained : goal.returns-then-not-put_one-clause-drained
returns-then-not-put_one-clause-drained g c = search (rules, arith, stuck_drained)
