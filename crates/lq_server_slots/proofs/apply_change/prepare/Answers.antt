use Rattle.std.proofs.Common.{ap, rules, subst, ℕ, ◌∙◌}
use Rattle.lq_volume.specs.State.{State}
use Rattle.lq_server_slots.specs.Slots.{MarksCover}
use Rattle.lq_server_slots.proofs.TakenLemmas.{none_prepared}
use Rattle.lq_server_slots.proofs.apply_change.prepare.Goals as goal

pub notice_all-requires-clause-number : goal.notice_all-requires-clause-number
notice_all-requires-clause-number c =
    let s = c.requires.stands in
    c.changes.ensures.number ∙ ap (λ (x : State). x.number) s.state ∙ s.full.number

pub returns-then-is_empty : goal.returns-then-is_empty
returns-then-is_empty c =
    let n = c.notice_all.ensures in
    let old = c.args.slots.now.subscriptions in
    let new = c.notice_all.new.slots.subscriptions in
    record {
      lawful = c.in_ok-resolved.ensures.ok;
      resolved = c.in_ok-resolved.ensures.value;
      prepared = λ i low is. none_prepared _ c.slots_for.result.word c.taken-taken.result.word _ old
          new c.args.volume.now c.args.change.now c.taken-taken.ensures.taken
          c.intersection-asked.ensures (c.is_empty.ensures.empty c.if-is_empty.true) n.marks i low
          (rw (c.slots_for.ensures, ← n.watch) is);
      noticed = n.noticed;
      heard = n.heard;
      shown = n.shown;
      tried = tt;
      same = n.same;
      keeps = n.keeps;
      marks = subst (λ (k : ℕ). MarksCover k old new) c.changes.ensures.number n.marks;
      rises = n.rises;
      refused = search rules;
    }
