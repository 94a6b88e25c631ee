use Rattle.lq_server_slots.proofs.TakenLemmas.{all_prepared, knows_on, noticed_at}
use Rattle.std.proofs.Common.{refl, arith, rules, subst, ℕ}
use Rattle.lq_server_slots.specs.Slots.{MarksCover}
use Rattle.lq_server_slots.proofs.MarkLemmas.{marks_cover-on}
use Rattle.lq_server_slots.proofs.TurnLemmas.{noticed_prepared}
use Rattle.lq_server_slots.proofs.CommitLemmas.{few_sent}
use Rattle.lq_server_slots.proofs.TableLemmas.{slots_kept-on}
use Rattle.lq_server_slots.proofs.change_passes.prepare_all.Goals as goal

pub notice_all-requires-clause-number : goal.notice_all-requires-clause-number
notice_all-requires-clause-number c =
    let state = c.requires.stands.state in
    let number = rw (← state) at c.requires.stands.full.number in
    search (rules, arith)

pub visit-requires : goal.visit-requires
visit-requires c = record {
  allowed = λ i x set found.
      let slots = c.notice_all.new.slots in
      few_sent x slots.keeper.book
      (noticed_at slots slots.keeper.book i x c.notice_all.ensures.keeps.holding
      c.notice_all.ensures.noticed found).taken.stands;
}

pub returns-then-full : goal.returns-then-full
returns-then-full c =
    let n = c.notice_all.ensures in
    let p = all_prepared _ _ _ c.notice_all.new.slots c.slots_for-asked.result.word
    c.args.planned.now.before.number c.visit.new.self _ _
    n.keeps.holding n.noticed c.visit.ensures.wide
    c.visit.ensures.visits in
    record {
      lawful = tt;
      resolved = tt;
      prepared = tt;
      noticed = tt;
      heard = tt;
      shown = tt;
      tried = λ ne. absurd (ne refl);
      same = n.same;
      keeps = slots_kept-on c.args.slots.now c.notice_all.new.slots c.visit.new.self n.keeps p.0;
      marks = marks_cover-on c.args.planned.now.before.number c.args.slots.now.subscriptions
          c.notice_all.new.slots.subscriptions c.visit.new.self
          (subst (λ (k : ℕ). MarksCover k c.args.slots.now.subscriptions
          c.notice_all.new.slots.subscriptions) (search (rules, arith)) n.marks) p.3;
      rises = n.rises;
      refused = rw c.requires.lawful (tt, refl);
    }

pub returns : goal.returns
returns c =
    let n = c.notice_all.ensures in
    let p = all_prepared _ _ _ c.notice_all.new.slots c.slots_for-asked.result.word
    c.args.planned.now.before.number c.visit.new.self _ _
    n.keeps.holding n.noticed c.visit.ensures.wide
    c.visit.ensures.visits in
    record {
      lawful = c.requires.lawful;
      resolved = c.resolved.ensures;
      prepared = λ i low is.
          p.2 c.if-full.false i low (rw (c.slots_for-asked.ensures, c.change.ensures) is);
      noticed = p.1;
      shown = noticed_prepared c.args.slots.now.keeper.book c.args.slots.now.subscriptions
          c.notice_all.new.slots.subscriptions c.visit.new.self
          c.notice_all.new.slots.keeper.slots _ _ _ _ _ (λ u i x y d. (d.others, d.held))
          c.visit.ensures.visits n.shown;
      tried = tt;
      heard = knows_on c.args.slots.now.keeper.register.heard _
          c.notice_all.new.slots.subscriptions c.visit.new.self
          c.notice_all.new.slots.keeper.slots p.3 n.heard;
      same = n.same;
      keeps = slots_kept-on c.args.slots.now c.notice_all.new.slots c.visit.new.self n.keeps p.0;
      marks = marks_cover-on c.args.planned.now.before.number c.args.slots.now.subscriptions
          c.notice_all.new.slots.subscriptions c.visit.new.self
          (subst (λ (k : ℕ). MarksCover k c.args.slots.now.subscriptions
          c.notice_all.new.slots.subscriptions) (search (rules, arith)) n.marks) p.3;
      rises = n.rises;
      refused = rw c.requires.lawful (refl, tt);
    }
