use Rattle.lq_server_slots.specs.declared.identity.Identity.{Identity}
use Rattle.lq_board.specs.Token.{SeatToken}
use Rattle.std.proofs.Common.{ap, arith, rules, sym, ◌∙◌}
use Rattle.lq_server_slots.proofs.SlotLemmas.{identity_alike, identity_others}
use Rattle.lq_server_slots.proofs.SyncLemmas.{keeps_then, kept_known, others_then, same_port, seat_named, taken_shown}
use Rattle.lq_board.specs.Slot.{slot_at}
use Rattle.lq_server_slots.proofs.TableLemmas.{slots_kept-taken, taken_at}
use Rattle.lq_server_slots.proofs.sync.sync_at.Goals as goal

pub notice_slot-requires-clause-taken : goal.notice_slot-requires-clause-taken
notice_slot-requires-clause-taken g c =
    let mid = c.refresh-number.new.slots in
    taken_at mid mid.keeper.book c.in-Some.index.index _ c.refresh-number.ensures.holding
    c.in-Some.index.within c.in-Some-get_mut.ensures.value

pub drain-waiting-requires-clause-port : goal.drain-waiting-requires-clause-port
drain-waiting-requires-clause-port g c =
    let m = c.refresh-number in
    let x = c.in-Some-get_mut.taken.now in
    let name = seat_named m.new.slots c.in-Some.index.index x c.args.seat.now m.new.seat _
    m.ensures.holding c.in-Some.index.within c.in-Some-get_mut.ensures.value m.ensures.met
    (c.in-Some.ensures ∙ c.slot.ensures.value) in
    rw c.notice_slot.ensures.others.0.input
    (same_port x _ c.args.reading.now.port name c.requires.seat.1)

pub returns-clause-keeps : goal.returns-clause-keeps
returns-clause-keeps g c =
    let m = c.refresh-number in
    let at = c.in-Some.ensures ∙ c.slot.ensures.value in
    let n = c.notice_slot.ensures in
    let d = c.drain-waiting in
    let u = c.refresh_slot in
    slots_kept-taken c.args.slots.now m.new.slots u.new.keeper c.in-Some.index.index
    c.in-Some-get_mut.taken.now _
    (kept_known c.args.slots.now m.new.slots m.ensures.same m.ensures.met.keeper.out
    m.ensures.holding)
    c.in-Some.index.within c.in-Some-get_mut.ensures.value
    (keeps_then _ _ _ _ _ n.keeper u.ensures.keeper (sym at))
    (rw (at, u.ensures.keeper.book)
    (taken_shown c.notice_slot.new.slot d.new.slot c.of-taken.result
    (slot_at c.notice_slot.new.keeper.slots m.new.seat.slot)
    (slot_at u.new.keeper.slots m.new.seat.slot)
    m.new.seat.asks c.notice_slot.new.keeper.book c.args.reading.now
    d.new.reading d.result (rw at at n.taken) d.ensures.between d.ensures.drained
    (search (rules, arith)) u.ensures.asks u.ensures.place))
    (d.ensures.between.alike.asks ∙ n.others.0.asks) (
      d.ensures.between.alike.held.query ∙ n.others.0.query,
      d.ensures.between.alike.held.flags ∙ n.others.0.flags,
    )

pub returns-clause-seat : goal.returns-clause-seat
returns-clause-seat g c =
    ap (λ (s : SeatToken Identity). s.book) c.refresh_slot.ensures.seat
    ∙ c.notice_slot.ensures.keeper.book ∙ c.refresh-number.ensures.met.keeper.book

pub returns-clause-progress : goal.returns-clause-progress
returns-clause-progress g c =
    let m = c.refresh-number in
    let at = c.in-Some.ensures ∙ c.slot.ensures.value in
    let name = seat_named m.new.slots c.in-Some.index.index c.in-Some-get_mut.taken.now
    c.args.seat.now m.new.seat _ m.ensures.holding c.in-Some.index.within
    c.in-Some-get_mut.ensures.value m.ensures.met at in
    let noticed = rw at at c.notice_slot.ensures.taken in
    let asks = rw at at c.notice_slot.ensures.asks in
    let slots = rw at at c.notice_slot.ensures.slots in
    search (rules, arith, identity_alike, identity_others)

pub returns-clause-others : goal.returns-clause-others
returns-clause-others g c =
    let m = c.refresh-number in
    others_then m.new.slots c.args.slots.now c.notice_slot.new.keeper c.refresh_slot.new.keeper
    c.in-Some.index.index c.args.seat.now.slot m.new.seat.slot _ m.ensures.same.subscriptions
    m.ensures.met.keeper c.notice_slot.ensures.keeper c.refresh_slot.ensures.keeper
    (c.in-Some.ensures ∙ c.slot.ensures.value)
    (ap (λ (s : SeatToken Identity). s.slot) m.ensures.met.seat)
