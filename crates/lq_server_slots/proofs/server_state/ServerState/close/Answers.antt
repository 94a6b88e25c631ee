use Rattle.std.proofs.Common.{sym, ap, ◌∙◌, subst}
use Rattle.lq_volume.specs.Book.{Book}
use Rattle.lq_board.specs.Token.{SeatToken}
use Rattle.lq_server_slots.specs.declared.identity.Identity.{Identity}
use Rattle.lq_server_slots.specs.declared.slots.ServerSlots.{ServerSlots}
use Rattle.lq_server_slots.specs.Closing.{IsClosed}
use Rattle.lq_server_slots.specs.Hold.{LockHold}
use Rattle.lq_server_slots.specs.Slots.{OthersStay}
use Rattle.lq_server_slots.proofs.ApplyLemmas.{state_kept}
use Rattle.lq_server_slots.proofs.SyncLemmas.{others_twice}
use Rattle.lq_server_slots.proofs.server_state.ServerState.close.Goals as goal

pub invariant_of-self : goal.invariant_of-self
invariant_of-self g c =
    state_kept g.N.Named.board g.N.Named.start c.self.inside.slots c.close_at-closed.new.slots
    c.self.inside.volume c.self.inside.seats c.self.invariant c.close_at-closed.ensures.keeps

-- once closed its seat was `mid`, and the sync was of that
pub returns-clause-closed : goal.returns-clause-closed
returns-clause-closed g c =
    let f = c.close_at-closed.ensures in
    let mid = c.close_at-closed.new.seat in
    let book = ap (λ (x : SeatToken Identity). x.book) f.closed.seat in
    let p = c.sync.ensures.progress in
    record {
      mid = mid;
      closed = subst (λ (b : Book). IsClosed b c.args.seat.now mid c.close_at-closed.result)
          (sym book) f.closed;
      same = c.sync.ensures.book ∙ f.keeps.book ∙ sym book;
      subscription = p.0;
      progress = c.sync.result;
      shown = p.1;
    }

pub returns-clause-others : goal.returns-clause-others
returns-clause-others g c =
    let f = c.close_at-closed.ensures in
    let slot = ap (λ (x : SeatToken Identity). x.slot) f.closed.seat in
    others_twice c.args.self.now.slots c.close_at-closed.new.slots c.sync.new.self.slots
    c.args.seat.now.slot (subst (λ (x : ServerSlots). OthersStay x c.close_at-closed.new.slots
    c.args.seat.now.slot)
    (ap (λ (h : LockHold). h.slots) c.self.view_is) f.others)
    (rw slot at c.sync.ensures.others)
