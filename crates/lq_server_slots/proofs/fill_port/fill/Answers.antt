use Rattle.std.proofs.Common.{arith, rules}
use Rattle.lq_server_slots.proofs.PutLemmas.{alike_trans, none_next}
use Rattle.lq_server_slots.proofs.TurnLemmas.{gained_none, gained_on, puts_known}
use Rattle.lq_server_slots.proofs.fill_port.fill.Goals as goal

pub loop-slot-init : goal.loop-slot-init
loop-slot-init g c = search (rules, arith, gained_none)

pub loop-slot-smaller : goal.loop-slot-smaller
loop-slot-smaller g c = c.if-put_one.ensures.moved

pub loop-slot-preserved : goal.loop-slot-preserved
loop-slot-preserved g c =
    let i = c.loop-slot.invariant in
    let p = c.put_one.ensures in (
      p.stands,
      alike_trans _ _ _ i.1 p.alike,
      omega (arith, i.2, p.taken),
      gained_on _ _ _ i.3 p.gained,
    )

pub returns-else-put_one-clause-alike : goal.returns-else-put_one-clause-alike
returns-else-put_one-clause-alike g c = search (rules, arith, alike_trans)

pub returns-else-put_one-clause-taken : goal.returns-else-put_one-clause-taken
returns-else-put_one-clause-taken g c =
    omega (arith, c.put_one.ensures.taken, c.loop-slot.invariant.2)

pub returns-else-put_one-clause-stuck : goal.returns-else-put_one-clause-stuck
returns-else-put_one-clause-stuck g c = c.if-put_one.ensures.moved.1

pub returns-after-loop-slot-clause-alike : goal.returns-after-loop-slot-clause-alike
returns-after-loop-slot-clause-alike g c = c.loop-slot.invariant.1

pub returns-after-loop-slot-clause-taken : goal.returns-after-loop-slot-clause-taken
returns-after-loop-slot-clause-taken g c = c.loop-slot.invariant.2

pub returns-after-loop-slot-clause-stuck : goal.returns-after-loop-slot-clause-stuck
returns-after-loop-slot-clause-stuck g c = search (rules, arith, none_next)

pub returns-else-put_one-clause-puts : goal.returns-else-put_one-clause-puts
returns-else-put_one-clause-puts g c q =
    let i = c.loop-slot.invariant in
    let p = c.put_one.ensures in
    puts_known _ _ q _ p.stands (alike_trans _ _ _ i.1 p.alike) (omega (arith, i.2, p.taken))
    (gained_on _ _ _ i.3 p.gained) c.if-put_one.ensures.moved.1

pub returns-after-loop-slot-clause-puts : goal.returns-after-loop-slot-clause-puts
returns-after-loop-slot-clause-puts g c q =
    let i = c.loop-slot.invariant in
    puts_known _ _ q _ i.0 i.1 i.2 i.3 (search (rules, arith, none_next))
