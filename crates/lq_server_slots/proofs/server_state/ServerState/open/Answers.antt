use Rattle.std.proofs.Common.{◌+◌, Ok, Err, sym, ap, ◌∙◌, subst, arith, rules, ◌-◌, ◌≡◌}
use Rattle.std.specs.Prelude.{Result}
use Rattle.std.proofs.lemmas.Result.{err_from_is_err_and}
use Rattle.lq_value.specs.declared.refusal.Refusal.{Refusal}
use Rattle.lq_board.specs.Token.{SeatToken}
use Rattle.lq_server_slots.specs.declared.identity.Identity.{Identity}
use Rattle.lq_desk_sub.specs.declared.slot_index.SlotIndex.{SlotIndex}
use Rattle.lq_server_slots.specs.declared.open.Opened.{Opened}
use Rattle.lq_server_slots.specs.declared.slots.ServerSlots.{ServerSlots}
use Rattle.lq_server_slots.specs.Hold.{LockHold}
use Rattle.lq_server_slots.specs.Noted.{IsOpenedOver}
use Rattle.lq_server_slots.specs.Slots.{SameButKnown}
use Rattle.lq_server_slots.proofs.OpenLemmas.{answer_given, answer_memory, answer_refused, begun_own, opened_over}
use Rattle.lq_server_slots.proofs.ApplyLemmas.{state_opened}
use Rattle.lq_server_slots.proofs.server_state.ServerState.open.Goals as goal

pub returns-in_err-index-clause-over : goal.returns-in_err-index-clause-over
returns-in_err-index-clause-over g c =
    let options = c.args.options.now in
    let start = g.N.Named.start in
    let i = c.self.inside in
    let at : LockHold = record { slots = i.slots; seats = i.seats } in
    let n = c.meet_and_record.ensures in
    let p = err_from_is_err_and c.from_residual.result c.from_residual.ensures.1 in
    subst (λ (r : Result Opened Refusal). (under : ServerSlots)
    × SameButKnown c.args.self.now.slots under
    × IsOpenedOver under start c.args.seat.now c.meet_and_record.new.seat options.port
    options.backlog r)
    (sym (p.1 ∙ ap Err p.2))
    (opened_over g.N.Named.board start c.args.self.now at c.meet_and_record.new.self i.volume
    c.args.seat.now c.meet_and_record.new.seat c.limit.result options.port options.backlog (Err _)
    c.self.invariant
    c.self.view_is n.same (ap (λ (x : SeatToken Identity). x.book) n.seat)
    (ap (λ (x : SeatToken Identity). x.moments) n.seat) c.limit.ensures
    (answer_refused (λ (x : SlotIndex). x.index + 1) (λ (o : Opened). o.slot) i.slots c.limit.result
    options.port options.backlog _ c.in_err-index.ensures.answered) tt)

pub returns-in_err-slot-clause-over : goal.returns-in_err-slot-clause-over
returns-in_err-slot-clause-over g c =
    let options = c.args.options.now in
    let start = g.N.Named.start in
    let i = c.self.inside in
    let at : LockHold = record { slots = i.slots; seats = i.seats } in
    let n = c.meet_and_record.ensures in
    let f = c.from_residual-in_err-slot in
    let p = err_from_is_err_and f.result f.ensures.1 in
    subst (λ (r : Result Opened Refusal). (under : ServerSlots)
    × SameButKnown c.args.self.now.slots under
    × IsOpenedOver under start c.args.seat.now c.meet_and_record.new.seat options.port
    options.backlog r)
    (sym (p.1 ∙ ap Err p.2))
    (opened_over g.N.Named.board start c.args.self.now at c.meet_and_record.new.self i.volume
    c.args.seat.now c.meet_and_record.new.seat c.limit.result options.port options.backlog (Err _)
    c.self.invariant
    c.self.view_is n.same (ap (λ (x : SeatToken Identity). x.book) n.seat)
    (ap (λ (x : SeatToken Identity). x.moments) n.seat) c.limit.ensures
    (answer_memory (λ (x : SlotIndex). x.index + 1) (λ (o : Opened). o.slot) i.slots c.limit.result
    options.port options.backlog _ _ c.in_err-slot.ensures.refused.1
    c.in_ok-index.ensures.answered) tt)

pub returns-clause-over : goal.returns-clause-over
returns-clause-over g c =
    let options = c.args.options.now in
    let i = c.self.inside in
    let at : LockHold = record { slots = i.slots; seats = i.seats } in
    let n = c.meet_and_record.ensures in
    let by = c.settle.ensures.by in
    opened_over g.N.Named.board g.N.Named.start c.args.self.now at c.meet_and_record.new.self
    i.volume c.args.seat.now c.settle.new.by c.limit.result options.port options.backlog
    (Ok c.settle.result) c.self.invariant c.self.view_is n.same
    (ap (λ (x : SeatToken Identity). x.book) by
    ∙ ap (λ (h : LockHold). h.slots.keeper.book) c.self.view_is ∙ n.same.book)
    (ap (λ (x : SeatToken Identity). x.moments) by
    ∙ ap (λ (x : SeatToken Identity). x.moments) n.seat) c.limit.ensures
    (answer_given (λ (x : SlotIndex). x.index + 1) (λ (o : Opened). o.slot) i.slots c.limit.result
    options.port options.backlog _ c.settle.result c.settle.ensures.slot
    c.in_ok-index.ensures.answered)
    (rw c.settle.ensures.reading c.in_ok-slot.ensures.keeper)

pub settle-requires-clause-begun : goal.settle-requires-clause-begun
settle-requires-clause-begun g c = search (rules, arith, begun_own)

pub settle-requires-clause-free : goal.settle-requires-clause-free
settle-requires-clause-free g c =
    let i = c.in_ok-index.index.index in
    let same : i + 1 - 1 ≡ i = omega arith in
    rw same at c.in_ok-index.ensures.answered.free

pub invariant_of-self : goal.invariant_of-self
invariant_of-self g c =
    let f = c.settle.ensures in
    state_opened g.N.Named.board g.N.Named.start c.self.inside.slots c.settle.new.slots
    c.self.inside.volume c.self.inside.seats c.self.invariant f.counts f.holding
    (omega (arith, c.in_ok-index.ensures.left, c.limit.ensures))
