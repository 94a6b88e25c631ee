use Rattle.lq_server_slots.specs.Slots.{IsNoticed, SlotHears, SlotIs}
use Rattle.lq_board.specs.Known.{Register}
use Rattle.std.proofs.Common.{ap, Option, Some, arith, refl, subst, true≢false, sym, ◌+◌, ◌∙◌, ◌≡◌, ◌≢◌}
use Rattle.lq_server_slots.specs.declared.subscription.Subscription.{Subscription}
use Rattle.lq_server_slots.proofs.TakenLemmas.{asks_rise, heard_set, outside_taken}
use Rattle.lq_server_slots.proofs.CommitLemmas.{counted_more}
use Rattle.lq_server_slots.proofs.MarkLemmas.{marks_cover-same, marks_cover-set}
use mathlib.Core.Logic.{dite}
use Rattle.lq_board.specs.Slot.{slot_at}
use native.Mathlib.Decide.{ℕ_discrete}
use Rattle.lq_server_slots.specs.Turn.{SlotNoticed}
use Rattle.lq_server_slots.specs.Slots.{slot_in}
use Rattle.lq_server_slots.proofs.TurnLemmas.{shown_set, none_shown}
use Rattle.lq_server_slots.proofs.TableLemmas.{in_else, place_cases, slots_kept-taken, slots_stay, taken_at}
use Rattle.lq_server_slots.proofs.slots.notice_all.Goals as goal

pub loop-index-init : goal.loop-index-init
loop-index-init c = record {
  keeps = slots_stay c.args.slots.now c.requires.holding;
  noticed = λ i low out. outside_taken
      (λ o. SlotIs IsNoticed o (slot_at c.args.slots.now.keeper.slots (i + 1))) _
      c.args.slots.now.subscriptions i c.taken-rest.ensures.taken out tt;
  heard = λ i low out. outside_taken
      (λ o. SlotHears c.args.slots.now.keeper.register.heard i o
      (slot_at c.args.slots.now.keeper.slots (i + 1))) _
      c.args.slots.now.subscriptions i c.taken-rest.ensures.taken out tt;
  same = refl;
  shown = λ i low out. outside_taken
      (λ o. SlotNoticed c.args.slots.now.keeper.book o o
      (slot_at c.args.slots.now.keeper.slots (i + 1))) _
      c.args.slots.now.subscriptions i c.taken-rest.ensures.taken out refl;
  left = λ i in_rest. refl;
  rises = λ k. omega arith;
  marks = marks_cover-same c.args.number c.args.slots.now.subscriptions;
  watch = refl;
}

pub notice_slot-requires-clause-taken : goal.notice_slot-requires-clause-taken
notice_slot-requires-clause-taken c =
    let was = c.loop-index.slots in
    let index = c.in-Some.index in
    taken_at was was.keeper.book index.index _ c.loop-index.invariant.keeps.holding index.within
    c.in-Some-get_mut.ensures.value

pub loop-index-preserved-in-Some-get_mut : goal.loop-index-preserved-in-Some-get_mut
loop-index-preserved-in-Some-get_mut c =
    let i = c.loop-index.invariant in
    let was = c.loop-index.slots in
    let known = was.keeper.slots in
    let k = c.in-Some.index.index in
    let within = c.in-Some.index.within in
    let n = c.notice_slot.ensures in
    let now = c.notice_slot.new.keeper in
    let t = c.notice_slot.new.slot in
    record {
      keeps = slots_kept-taken c.args.slots.now was now k c.in-Some-get_mut.slot.now t i.keeps
          within c.in-Some-get_mut.ensures.value n.keeper n.taken n.others.0.asks
          (n.others.0.query, n.others.0.flags);
      noticed = λ j low left. place_cases (SlotIs IsNoticed) was.subscriptions known now.slots k j
          (Some t) (omega (arith, within, i.keeps.holding.wide)) n.keeper.only n.noticed
          (λ ne. i.noticed j low (sym (c.in-Some.ensures.others j ne) ∙ left));
      heard = λ j low left. heard_set c.args.slots.now.keeper.register.heard was.subscriptions known
          now.slots k j t (omega (arith, within, i.keeps.holding.wide)) n.keeper.only
          (rw i.same at n.heard)
          (λ ne. i.heard j low (sym (c.in-Some.ensures.others j ne) ∙ left));
      same = ap (λ (r : Register). r.heard) n.register ∙ i.same;
      shown = λ j low left. shown_set c.args.slots.now.keeper.book
          c.args.slots.now.subscriptions was.subscriptions known now.slots k j
          c.in-Some-get_mut.slot.now t (omega (arith, within, i.keeps.holding.wide)) n.keeper.only
          (c.in-Some-get_mut.ensures.value ∙ i.left k c.in-Some.ensures.was)
          (rw i.keeps.book at n.shown)
          (λ ne. i.shown j low (sym (c.in-Some.ensures.others j ne) ∙ left));
      left = λ j is. dite (ℕ_discrete j k)
          (λ (e : j ≡ k). absurd (true≢false (sym (rw e at is) ∙ c.in-Some.ensures.gone)))
          (λ (ne : j ≢ k). in_else was.subscriptions k j (Some t) ne
          ∙ i.left j (sym (c.in-Some.ensures.others j ne) ∙ is));
      rises = asks_rise c.args.slots.now.keeper.slots known now.slots (k + 1) n.keeper.only
          (counted_more known now.slots (k + 1) c.notice_slot.result i.keeps.holding.known
          (omega (arith, within)) n.slots n.asks) i.rises;
      marks = marks_cover-set c.args.number c.args.slots.now.subscriptions was.subscriptions k
          c.in-Some-get_mut.slot.now t i.marks (omega (arith, within, i.keeps.holding.wide))
          c.in-Some-get_mut.ensures.value n.mark;
      watch = i.watch;
    }

pub loop-index-preserved : goal.loop-index-preserved
loop-index-preserved c =
    let i = c.loop-index.invariant in
    let k = c.in-Some.index.index in
    record {
      keeps = i.keeps;
      noticed = λ j low left. dite (ℕ_discrete j k)
          (λ (e : j ≡ k). rw e
          (subst (λ (o : Option Subscription).
          SlotIs IsNoticed o (slot_at c.loop-index.slots.keeper.slots (k + 1)))
          c.in_default-get_mut.ensures.value tt))
          (λ (ne : j ≢ k). i.noticed j low (sym (c.in-Some.ensures.others j ne) ∙ left));
      heard = λ j low left. dite (ℕ_discrete j k)
          (λ (e : j ≡ k). rw e
          (subst (λ (o : Option Subscription).
          SlotHears c.args.slots.now.keeper.register.heard k o
          (slot_at c.loop-index.slots.keeper.slots (k + 1)))
          c.in_default-get_mut.ensures.value tt))
          (λ (ne : j ≢ k). i.heard j low (sym (c.in-Some.ensures.others j ne) ∙ left));
      same = i.same;
      shown = λ j low left. dite (ℕ_discrete j k)
          (λ (e : j ≡ k). rw (e, ← i.left k c.in-Some.ensures.was)
          (none_shown c.args.slots.now.keeper.book (slot_in c.loop-index.slots.subscriptions k)
          (slot_at c.loop-index.slots.keeper.slots (k + 1)) (sym
          c.in_default-get_mut.ensures.value)))
          (λ (ne : j ≢ k). i.shown j low (sym (c.in-Some.ensures.others j ne) ∙ left));
      left = λ j is. dite (ℕ_discrete j k)
          (λ (e : j ≡ k). absurd (true≢false (sym (rw e at is) ∙ c.in-Some.ensures.gone)))
          (λ (ne : j ≢ k). i.left j (sym (c.in-Some.ensures.others j ne) ∙ is));
      rises = i.rises;
      marks = i.marks;
      watch = i.watch;
    }

pub returns-clause-noticed : goal.returns-clause-noticed
returns-clause-noticed c i low = c.loop-index.invariant.noticed i low (c.in_default.ensures i)

pub returns-clause-heard : goal.returns-clause-heard
returns-clause-heard c i low = c.loop-index.invariant.heard i low (c.in_default.ensures i)

pub returns-clause-shown : goal.returns-clause-shown
returns-clause-shown c i low = c.loop-index.invariant.shown i low (c.in_default.ensures i)
