-- The caller's seat met the keeper first, which knew how often it has asked.
use Rattle.std.proofs.Common.{arith}
use Rattle.lq_server_slots.proofs.SyncLemmas.{out_by}
use Rattle.lq_server_slots.proofs.open.sit.Goals as goal

pub returns-clause-out : goal.returns-clause-out
returns-clause-out g c =
    let f = c.slot_seat_by.ensures in
    let r = c.requires.1.1 in
    rw (c.number.ensures, c.requires.0) at
    (out_by c.args.keeper.now c.slot_seat_by.new.keeper c.args.by.now c.slot_seat_by.result _ _
    f.out f.was_out r.0.1 (omega (arith, c.slot.ensures.value, c.slot.ensures.within, r.1.0)))
