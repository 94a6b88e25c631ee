use Rattle.lq_server_slots.proofs.slots.serve_all.Given.{Over}
use Rattle.lq_server_slots.specs.Slots.{AreConsistent, IsServed, MarksCover, SlotsAre}
use Rattle.lq_server_slots.proofs.TurnLemmas.{all_turned, put_all, visits_less}
use Rattle.lq_server_slots.proofs.TakenLemmas.{all_served, knows_on, noticed_at}
use Rattle.lq_server_slots.proofs.TableLemmas.{slots_kept-on}
use Rattle.std.proofs.Common.{length, subst, sym, ap, ◌∙◌, ℕ}
use Rattle.lq_volume.specs.Book.{Book}
use Rattle.lq_server_slots.proofs.MarkLemmas.{marks_cover-on}
use Rattle.lq_server_slots.proofs.slots.serve_all.Goals as goal

pub visit-requires : goal.visit-requires
visit-requires g c = record {
  allowed = λ i x set found.
      let slots = c.notice_all.new.slots in
      noticed_at slots slots.keeper.book i x c.notice_all.ensures.keeps.holding
      c.notice_all.ensures.noticed found;
}

-- each slot was served
served : (g : Over) (c : goal.After-visit g)
    → AreConsistent (record c.notice_all.new.slots { subscriptions = c.visit.new.self })
    c.notice_all.new.slots.keeper.book
    × SlotsAre IsServed c.visit.new.self c.notice_all.new.slots.keeper.slots
    × MarksCover (length c.notice_all.new.slots.keeper.book.changes)
    c.notice_all.new.slots.subscriptions c.visit.new.self
served g c = all_served _ c.notice_all.new.slots c.taken-taken.result.word _ c.visit.new.self _ _ _
    c.notice_all.ensures.keeps.holding c.taken-taken.ensures.taken c.visit.ensures.wide
    (visits_less (λ u i x y d. d.serves) c.visit.ensures.visits)

pub returns-clause-keeps : goal.returns-clause-keeps
returns-clause-keeps g c =
    slots_kept-on c.args.slots.now c.notice_all.new.slots c.visit.new.self
    c.notice_all.ensures.keeps (served g c).0

pub returns-clause-served : goal.returns-clause-served
returns-clause-served g c = (served g c).1

pub returns-clause-marks : goal.returns-clause-marks
returns-clause-marks g c =
    let n = c.notice_all.ensures in
    let number = ap (λ (b : Book). length b.changes) n.keeps.book ∙ sym c.requires.number in
    marks_cover-on c.args.number c.args.slots.now.subscriptions c.notice_all.new.slots.subscriptions
    c.visit.new.self n.marks
    (subst (λ (k : ℕ). MarksCover k c.notice_all.new.slots.subscriptions c.visit.new.self) number
    (served g c).2)

pub returns-clause-heard : goal.returns-clause-heard
returns-clause-heard g c =
    let n = c.notice_all.new.slots in
    knows_on c.args.slots.now.keeper.register.heard _ n.subscriptions c.visit.new.self
    n.keeper.slots (served g c).2 c.notice_all.ensures.heard

pub returns-clause-turned : goal.returns-clause-turned
returns-clause-turned g c =
    let n = c.notice_all.ensures in
    let slots = c.notice_all.new.slots in
    all_turned c.args.slots.now.keeper.book c.args.slots.now.keeper.book (λ u. u)
    c.args.slots.now.subscriptions slots.subscriptions c.visit.new.self slots.keeper.slots n.shown
    (rw (← n.keeps.book) (put_all slots.keeper.book (λ u. u) _ slots.subscriptions c.visit.new.self
    slots.keeper.slots _ _ _ _ c.visit.ensures.visits c.taken-taken.ensures.taken))
