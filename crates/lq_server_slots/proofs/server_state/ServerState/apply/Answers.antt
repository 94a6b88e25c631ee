use Rattle.std.proofs.Common.{◌≡◌, Err, ℕ, [], ◌∷◌, ◌++◌, length, sym, ap, ◌∙◌, subst, arith, rules}
use Rattle.lq_volume.specs.Book.{Book}
use Rattle.lq_server_slots.specs.Applied.{IsApplied}
use Rattle.lq_server_slots.specs.Hold.{LockHold}
use Rattle.lq_server_slots.specs.Slots.{AreConsistent, MarksCover}
use Rattle.lq_server_slots.proofs.ApplyLemmas.{applied_ok, applied_err, has_looked, knows_asks_on, looked_out, seat_twice, heard_twice, state_changed, state_kept}
use Rattle.lq_server_slots.proofs.SlotLemmas.{before_is, grown_is}
use Rattle.lq_server_slots.proofs.MarkLemmas.{marks_cover-on}
use Rattle.lq_board.specs.Token.{SeatToken, moment_of}
use Rattle.lq_server_slots.specs.declared.identity.Identity.{Identity}
use Rattle.lq_desk_world.specs.World.{after_change}
use Rattle.lq_server_slots.proofs.TurnLemmas.{all_turned}
use Rattle.lq_server_slots.proofs.TakenLemmas.{knows_less, knows_on}
use Rattle.lq_server_slots.proofs.server_state.ServerState.apply.Goals as goal

pub commit_all-requires-clause-grown : goal.commit_all-requires-clause-grown
commit_all-requires-clause-grown g c =
    let a = c.in-Ok.ensures in
    let i = c.self.invariant in
    grown_is c.self.inside.slots.keeper.book c.add.new.slots.keeper.book c.args.change.now a.made.ok
    (rw i.1 at a.lawful) a.full

pub commit_all-requires-clause-prepared : goal.commit_all-requires-clause-prepared
commit_all-requires-clause-prepared g c = search (rules, arith, before_is)

pub commit_all-requires-clause-holding : goal.commit_all-requires-clause-holding
commit_all-requires-clause-holding g c =
    let a = c.in-Ok.ensures in
    rw
    (before_is c.self.inside.slots.keeper.book c.add.new.slots.keeper.book c.args.change.now
    a.made.ok)
    a.holding

pub returns-in-Ok-clause-applied : goal.returns-in-Ok-clause-applied
returns-in-Ok-clause-applied g c =
    let m = seat_twice c.args.seat.now c.meet_slot.new.seat c.hear.new.seat
    c.meet_slot.ensures.seat c.meet_slot.ensures.later c.hear.ensures.seat c.hear.ensures.later in
    rw c.commit_all.ensures.keeper
    (applied_ok c.args.change.now c.self.inside.volume c.add.new.volume
    c.self.inside.slots.keeper.book c.add.new.slots.keeper.book c.args.seat.now c.hear.new.seat
    c.self.invariant.1 m.0 m.1 _ c.add.new.seat c.in-Ok.ensures.made)

pub invariant_of-self : goal.invariant_of-self
invariant_of-self g c =
    let a = c.in-Ok.ensures in
    let f = c.commit_all.ensures in
    let k = f.keeper in
    state_changed g.N.Named.board g.N.Named.start c.self.inside.slots c.commit_all.new.slots
    c.self.inside.volume c.self.inside.seats c.self.invariant c.add.new.volume
    (record {
      board = rw k a.counts.board;
      counted = rw k a.counts.counted;
      out = rw k a.counts.out;
      openings = f.openings ∙ a.counts.openings;
    })
    (rw k a.volume) (rw k a.full) (rw k a.made.start) a.made.limit f.holding

pub returns-in-Ok-clause-marks : goal.returns-in-Ok-clause-marks
returns-in-Ok-clause-marks g c =
    let m = c.meet_slot.ensures.same in
    let h = c.hear.ensures.same in
    let a = c.in-Ok.ensures in
    let book : c.self.inside.slots.keeper.book ≡ c.args.self.now.slots.keeper.book =
    ap (λ (h : LockHold). h.slots.keeper.book) c.self.view_is ∙ h.book ∙ m.book in
    let items = ap (λ (h : LockHold). h.slots.subscriptions) c.self.view_is
    ∙ h.subscriptions ∙ m.subscriptions in
    let before = before_is c.self.inside.slots.keeper.book c.add.new.slots.keeper.book
    c.args.change.now a.made.ok in
    let number = ap (λ (b : Book). length b.changes) (before ∙ book) in
    marks_cover-on (length c.args.self.now.slots.keeper.book.changes)
    c.args.self.now.slots.subscriptions c.add.new.slots.subscriptions
    c.commit_all.new.slots.subscriptions (rw (items, book) at a.marks)
    (subst (λ (k : ℕ). MarksCover k c.add.new.slots.subscriptions
    c.commit_all.new.slots.subscriptions) number c.commit_all.ensures.marks)

pub returns-in-Ok-clause-heard : goal.returns-in-Ok-clause-heard
returns-in-Ok-clause-heard g c =
    let a = c.in-Ok.ensures in
    let was = ap (λ (h : LockHold). h.slots.keeper.register.heard) c.self.view_is in
    rw c.commit_all.ensures.keeper
    (knows_less c.self.inside.slots.keeper.register.heard c.args.seat.now.author.heard
    c.commit_all.new.slots.subscriptions c.add.new.slots.keeper.slots
    (rw was (heard_twice _ c.args.seat.now c.meet_slot.new.seat
    c.meet_slot.ensures.seat c.hear.ensures.heard))
    (knows_on c.self.inside.slots.keeper.register.heard _ c.add.new.slots.subscriptions
    c.commit_all.new.slots.subscriptions c.add.new.slots.keeper.slots c.commit_all.ensures.marks
    a.heard))

pub returns-in-Ok-clause-looked : goal.returns-in-Ok-clause-looked
returns-in-Ok-clause-looked g c =
    let a = c.in-Ok.ensures in
    let f = c.commit_all.ensures in
    let m = seat_twice c.args.seat.now c.meet_slot.new.seat c.hear.new.seat
    c.meet_slot.ensures.seat c.meet_slot.ensures.later c.hear.ensures.seat c.hear.ensures.later in
    has_looked c.args.seat.now c.add.new.seat c.add.new.slots.keeper
    (a.recorded ∙ ap (λ (x : SeatToken Identity). x.moments
    ++ moment_of c.add.new.slots.keeper ∷ []) m.0)
    (sym (ap (λ (x : SeatToken Identity). x.book) a.made.seat))
    (rw f.keeper at (looked_out c.args.seat.now.author.heard c.commit_all.new.slots
    c.commit_all.new.slots.keeper.book f.holding (returns-in-Ok-clause-heard g c)))

pub returns-in-Ok-clause-turned : goal.returns-in-Ok-clause-turned
returns-in-Ok-clause-turned g c =
    let m = c.meet_slot.ensures.same in
    let h = c.hear.ensures.same in
    let a = c.in-Ok.ensures in
    let was = c.self.inside.slots in
    let mid = c.add.new.slots in
    let now = c.commit_all.new.slots in
    let book : was.keeper.book ≡ c.args.self.now.slots.keeper.book =
    ap (λ (h : LockHold). h.slots.keeper.book) c.self.view_is ∙ h.book ∙ m.book in
    let items = ap (λ (h : LockHold). h.slots.subscriptions) c.self.view_is
    ∙ h.subscriptions ∙ m.subscriptions in
    let before = before_is was.keeper.book mid.keeper.book c.args.change.now a.made.ok in
    rw (← book, ← items, c.commit_all.ensures.keeper)
    (all_turned was.keeper.book mid.keeper.book (after_change was.keeper.book c.args.change.now)
    was.subscriptions mid.subscriptions now.subscriptions mid.keeper.slots a.shown
    (rw (c.commit_all.ensures.keeper, before) at c.commit_all.ensures.puts))

-- ---- a change that is refused

pub serve_all-requires-clause-number : goal.serve_all-requires-clause-number
serve_all-requires-clause-number g c =
    let a = c.in-Err.ensures in (rw a.volume at c.changes.ensures.number) ∙ a.full.number

pub serve_all-requires-clause-holding : goal.serve_all-requires-clause-holding
serve_all-requires-clause-holding g c =
    let a = c.in-Err.ensures in
    subst (AreConsistent c.add.new.slots) (sym a.made.err) a.holding

pub record-requires-clause-known : goal.record-requires-clause-known
record-requires-clause-known g c =
    let a = c.in-Err.ensures in
    let is = a.made.stays ∙ c.hear.ensures.seat in
    knows_asks_on c.self.inside.slots.keeper.slots c.serve_all.new.slots.keeper.slots
    c.meet_slot.new.seat c.add.new.seat (ap (λ (x : SeatToken Identity). x.slot) is)
    (ap (λ (x : SeatToken Identity). x.asks) is)
    (λ k. omega (arith, a.rises k, c.serve_all.ensures.rises k))
    (rw (← c.self.view_is) at c.hear.ensures.known)

pub invariant_of-self-in-Err : goal.invariant_of-self-in-Err
invariant_of-self-in-Err g c =
    let a = c.in-Err.ensures in
    state_kept g.N.Named.board g.N.Named.start c.add.new.slots c.serve_all.new.slots
    c.add.new.volume c.self.inside.seats
    (state_changed g.N.Named.board g.N.Named.start c.self.inside.slots c.add.new.slots
    c.self.inside.volume c.self.inside.seats c.self.invariant c.add.new.volume
    a.counts a.volume a.full a.made.start a.made.limit
    (subst (AreConsistent c.add.new.slots) (sym a.made.err) a.holding))
    c.serve_all.ensures.keeps

pub returns-in-Err-clause-applied : goal.returns-in-Err-clause-applied
returns-in-Err-clause-applied g c =
    let m = seat_twice c.args.seat.now c.meet_slot.new.seat c.hear.new.seat
    c.meet_slot.ensures.seat c.meet_slot.ensures.later c.hear.ensures.seat c.hear.ensures.later in
    let e = c.record.ensures in
    let book = e.same.book ∙ c.serve_all.ensures.keeps.book in
    let is : c.record.new.seat ≡ record c.add.new.seat {
      book = c.add.new.slots.keeper.book;
      moments = c.record.new.seat.moments;
    } =
    e.seat ∙ (λ i. record c.add.new.seat {
      book = c.serve_all.ensures.keeps.book i;
      moments = sym (ap (λ (x : SeatToken Identity). x.moments) e.seat) i;
    }) in
    subst (λ (b : Book). IsApplied c.args.change.now b c.args.seat.now c.record.new.seat
    (Err c.in-Err.refusal)) (sym book)
    (applied_err c.args.change.now c.self.inside.volume c.add.new.volume
    c.self.inside.slots.keeper.book c.add.new.slots.keeper.book c.args.seat.now c.hear.new.seat
    c.self.invariant.1 m.0 m.1 c.in-Err.refusal c.add.new.seat c.record.new.seat
    c.in-Err.ensures.made is e.later)

pub returns-in-Err-clause-marks : goal.returns-in-Err-clause-marks
returns-in-Err-clause-marks g c =
    let m = c.meet_slot.ensures.same in
    let h = c.hear.ensures.same in
    let a = c.in-Err.ensures in
    let book : c.self.inside.slots.keeper.book ≡ c.args.self.now.slots.keeper.book =
    ap (λ (h : LockHold). h.slots.keeper.book) c.self.view_is ∙ h.book ∙ m.book in
    let items = ap (λ (h : LockHold). h.slots.subscriptions) c.self.view_is
    ∙ h.subscriptions ∙ m.subscriptions in
    let number = (rw a.volume at c.changes.ensures.number) ∙ a.full.number
    ∙ ap (λ (b : Book). length b.changes) (a.made.err ∙ book) in
    rw c.record.ensures.same.subscriptions
    (marks_cover-on (length c.args.self.now.slots.keeper.book.changes)
    c.args.self.now.slots.subscriptions c.add.new.slots.subscriptions
    c.serve_all.new.slots.subscriptions (rw (items, book) at a.marks)
    (rw number at c.serve_all.ensures.marks))

pub returns-in-Err-clause-heard : goal.returns-in-Err-clause-heard
returns-in-Err-clause-heard g c =
    let a = c.in-Err.ensures in
    let e = c.record.ensures in
    let was = ap (λ (h : LockHold). h.slots.keeper.register.heard) c.self.view_is in
    rw (e.same.subscriptions, e.slots)
    (knows_less c.add.new.slots.keeper.register.heard c.args.seat.now.author.heard
    c.serve_all.new.slots.subscriptions c.serve_all.new.slots.keeper.slots
    (rw (a.same ∙ was) (heard_twice _ c.args.seat.now c.meet_slot.new.seat
    c.meet_slot.ensures.seat c.hear.ensures.heard))
    c.serve_all.ensures.heard)

pub returns-in-Err-clause-looked : goal.returns-in-Err-clause-looked
returns-in-Err-clause-looked g c =
    let e = c.record.ensures in
    let a = c.in-Err.ensures in
    let m = seat_twice c.args.seat.now c.meet_slot.new.seat c.hear.new.seat
    c.meet_slot.ensures.seat c.meet_slot.ensures.later c.hear.ensures.seat c.hear.ensures.later in
    has_looked c.args.seat.now c.record.new.seat c.record.new.self.slots.keeper
    (ap (λ (x : SeatToken Identity). x.moments) e.seat
    ∙ ap (λ (x : SeatToken Identity). x.moments
    ++ moment_of c.record.new.self.slots.keeper ∷ []) (a.made.stays ∙ m.0))
    (e.same.book ∙ sym (ap (λ (x : SeatToken Identity). x.book) e.seat))
    (rw e.slots (looked_out c.args.seat.now.author.heard c.serve_all.new.slots
    c.serve_all.new.slots.keeper.book c.serve_all.ensures.keeps.holding
    (rw (e.same.subscriptions, e.slots) at (returns-in-Err-clause-heard g c))))

pub returns-in-Err-clause-refused : goal.returns-in-Err-clause-refused
returns-in-Err-clause-refused g c ne =
    let m = c.meet_slot.ensures.same in
    let h = c.hear.ensures.same in
    let e = c.record.ensures in
    let a = c.in-Err.ensures in
    let book : c.self.inside.slots.keeper.book ≡ c.args.self.now.slots.keeper.book =
    ap (λ (h : LockHold). h.slots.keeper.book) c.self.view_is ∙ h.book ∙ m.book in
    let items = ap (λ (h : LockHold). h.slots.subscriptions) c.self.view_is
    ∙ h.subscriptions ∙ m.subscriptions in
    rw (← (a.made.err ∙ book), ← (a.tried ne ∙ items), e.same.subscriptions, e.slots)
    c.serve_all.ensures.turned
