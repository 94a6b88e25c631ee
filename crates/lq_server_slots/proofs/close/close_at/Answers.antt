use Rattle.std.proofs.Common.{ap, arith, rules, sym, ◌∙◌}
use Rattle.lq_board.specs.Token.{SeatToken}
use Rattle.lq_server_slots.specs.declared.identity.Identity.{Identity}
use Rattle.lq_server_slots.proofs.SyncLemmas.{keeps_then, kept_known, others_then, seat_named, taken_closed}
use Rattle.lq_server_slots.proofs.TableLemmas.{slots_kept-taken, taken_at}
use Rattle.lq_server_slots.proofs.close.close_at.Goals as goal

pub notice_slot-requires-clause-taken : goal.notice_slot-requires-clause-taken
notice_slot-requires-clause-taken c =
    let mid = c.refresh-number.new.slots in
    taken_at mid mid.keeper.book c.in-Some.index.index _ c.refresh-number.ensures.holding
    c.in-Some.index.within c.in-Some-get_mut.ensures.value

pub returns-clause-closed : goal.returns-clause-closed
returns-clause-closed c =
    let m = c.refresh-number in
    let at = c.in-Some.ensures ∙ c.slot.ensures.value in
    let name = seat_named m.new.slots c.in-Some.index.index c.in-Some-get_mut.taken.now
    c.args.seat.now m.new.seat _ m.ensures.holding c.in-Some.index.within
    c.in-Some-get_mut.ensures.value m.ensures.met at in
    let noticed = rw at at c.notice_slot.ensures.taken in
    let asks = rw at at c.notice_slot.ensures.asks in
    search (rules, arith)

pub returns-clause-keeps : goal.returns-clause-keeps
returns-clause-keeps c =
    let m = c.refresh-number in
    let at = c.in-Some.ensures ∙ c.slot.ensures.value in
    let n = c.notice_slot.ensures in
    let f = c.close-closed.ensures in
    let u = c.refresh_slot in
    let taken = rw at at n.taken in
    let book = c.notice_slot.new.keeper.book in
    slots_kept-taken c.args.slots.now m.new.slots u.new.keeper c.in-Some.index.index
    c.in-Some-get_mut.taken.now _
    (kept_known c.args.slots.now m.new.slots m.ensures.same m.ensures.met.keeper.out
    m.ensures.holding)
    c.in-Some.index.within c.in-Some-get_mut.ensures.value
    (keeps_then _ _ _ _ _ n.keeper u.ensures.keeper (sym at))
    (rw (at, u.ensures.keeper.book)
    (taken_closed _ _ _ _ _ book taken
    (f.stands book taken.stands (rw (n.keeper.book, m.ensures.met.keeper.book)
    m.ensures.met.number)) f.others f.messages f.hung u.ensures.asks u.ensures.place))
    (f.others.asks ∙ n.others.0.asks)
    (f.others.query ∙ n.others.0.query, f.others.flags ∙ n.others.0.flags)

pub returns-clause-others : goal.returns-clause-others
returns-clause-others c =
    let m = c.refresh-number in
    others_then m.new.slots c.args.slots.now c.notice_slot.new.keeper c.refresh_slot.new.keeper
    c.in-Some.index.index c.args.seat.now.slot m.new.seat.slot _ m.ensures.same.subscriptions
    m.ensures.met.keeper c.notice_slot.ensures.keeper c.refresh_slot.ensures.keeper
    (c.in-Some.ensures ∙ c.slot.ensures.value)
    (ap (λ (s : SeatToken Identity). s.slot) m.ensures.met.seat)
