use Rattle.std.proofs.Common.{◌≡◌, arith}
use Rattle.lq_server_slots.specs.Slots.{KeepsSlots}
use Rattle.lq_server_slots.proofs.SyncLemmas.{slots_heard}
use Rattle.lq_server_slots.proofs.sync.hear_at.Goals as goal

-- all slots stay
heard : (c : goal.After-hear)
    → (c.hear.new.keeper.slots ≡ c.args.slots.now.keeper.slots)
    × KeepsSlots c.args.slots.now (record c.args.slots.now { keeper = c.hear.new.keeper })
heard c =
    let s = c.slot.ensures in
    slots_heard c.args.slots.now c.hear.new.keeper c.args.seat.now c.hear.new.keeper.register.heard
    c.hear.ensures.keeper
    c.hear.ensures.was_out (omega (arith, s.value, s.within)) c.requires.known c.requires.holding

pub returns-clause-keeps : goal.returns-clause-keeps
returns-clause-keeps c = (heard c).1

pub returns-clause-slots : goal.returns-clause-slots
returns-clause-slots c = (heard c).0
