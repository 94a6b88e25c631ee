use Rattle.lq_server_slots.specs.Slots.{AreConsistent, IsSlotMet, slot_in}
use Rattle.std.proofs.Common.{IsSome, arith, sym, ℕ, ◌+◌, ◌∙◌, ◌≡◌}
use Rattle.lq_server_slots.proofs.SyncLemmas.{slot_met_same, slots_met}
use Rattle.lq_server_slots.proofs.sync.refresh.Goals as goal

-- the seat met the keeper
met : (c : goal.After-meet_slot)
    → IsSlotMet c.args.slots.now.keeper c.meet_slot.new.keeper c.args.seat.now c.meet_slot.new.seat
    c.args.seat.now.name c.meet_slot.result
met c =
    let s = c.slot.ensures in
    slot_met_same c.args.slots.now.keeper c.meet_slot.new.keeper c.args.seat.now
    c.meet_slot.new.seat c.meet_slot.result c.meet_slot.ensures.met c.meet_slot.ensures.number
    (c.requires.board.0 ∙ sym c.requires.board.1)
    (c.requires.seat, omega (arith, s.value, s.within), c.requires.holding.known)
    (s.named c.requires.seat)

-- and all slots stand on
after : (c : goal.After-meet_slot)
    → AreConsistent (record c.args.slots.now { keeper = c.meet_slot.new.keeper })
    c.meet_slot.new.keeper.book
    × ((i : ℕ) → i + 1 ≡ c.args.seat.now.slot → IsSome (slot_in c.args.slots.now.subscriptions i))
after c =
    let s = c.slot.ensures in
    slots_met c.args.slots.now c.meet_slot.new.keeper c.args.seat.now c.meet_slot.new.seat
    c.meet_slot.result c.requires.holding c.requires.seat (omega (arith, s.value, s.within)) (met c)

pub returns-clause-met : goal.returns-clause-met
returns-clause-met c = met c

pub returns-clause-holding : goal.returns-clause-holding
returns-clause-holding c = (after c).0

pub returns-clause-taken : goal.returns-clause-taken
returns-clause-taken c = (after c).1
