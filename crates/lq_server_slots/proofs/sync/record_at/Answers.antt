use Rattle.std.proofs.Common.{◌≡◌, arith}
use Rattle.lq_server_slots.specs.Slots.{KeepsSlots}
use Rattle.lq_server_slots.proofs.SyncLemmas.{slots_heard}
use Rattle.lq_server_slots.proofs.sync.record_at.Goals as goal

-- all slots stay
met : (c : goal.After-meet_and_record)
    → (c.meet_and_record.new.keeper.slots ≡ c.args.slots.now.keeper.slots)
    × KeepsSlots c.args.slots.now (record c.args.slots.now {
      keeper = c.meet_and_record.new.keeper;
    })
met c =
    let s = c.slot.ensures in
    slots_heard c.args.slots.now c.meet_and_record.new.keeper c.args.seat.now
    c.args.slots.now.keeper.register.heard
    c.meet_and_record.ensures.keeper
    c.meet_and_record.ensures.was_out (omega (arith, s.value, s.within)) c.requires.known
    c.requires.holding

pub returns-clause-keeps : goal.returns-clause-keeps
returns-clause-keeps c = (met c).1

pub returns-clause-slots : goal.returns-clause-slots
returns-clause-slots c = (met c).0
