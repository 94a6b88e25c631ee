use Rattle.std.proofs.Common.{◌≡◌, ◌∙◌, ◌∷◌, ◌++◌, [], ap, append_assoc, sym, subst, rules, Err, IfOk, inl, inr, map}
use Rattle.std.proofs.lemmas.List.{append-nil}
use Rattle.std.specs.Vec.Iter.{into_iter_items}
use Rattle.lq_volume.specs.Lookup.{listed}
use Rattle.lq_volume.specs.Restore.{entry_faults, listed_pair, push_faults, pushed, state_with}
use Rattle.lq_volume.specs.State.{State, Record}
use Rattle.lq_volume.proofs.RecordLemmas.{Entries}
use Rattle.lq_volume.proofs.EntryLists.{none-left}
use Rattle.lq_volume.proofs.FaultLemmas.{earlier-decides, later-decide}
use Rattle.lq_volume.proofs.Restores.{record-restores}
use Rattle.lq_volume.proofs.volume.Volume.restore.Goals as goal

pub returns-in_err-push-clause-err : goal.returns-in_err-push-clause-err
returns-in_err-push-clause-err c =
    let s : State = state_with c.args.limit c.args.changes c.args.next c.args.records.items in
    let left : Entries = map listed_pair (into_iter_items c.next.new.self) in
    let all = sym (rw c.in-Some.ensures.steps.0 at c.loop-node.invariant.all) in
    let is : c.from_residual-in_err-push.result ≡ Err c.in_err-push.field-0.0 = search rules in
    rw is (elim c.in_err-push.ensures.refused.1 [
      | inl out ↦ inl out
      | inr first ↦ inr (λ v.
          let none = record-restores c.volumes_are_restored.ensures s c.loop-node.restoring left
          c.in-Some.node (listed c.in-Some.listing) v all c.loop-node.invariant.shown in
          let no : ⊥ = cc in
          no)
    ])

pub loop-node-preserved : goal.loop-node-preserved
loop-node-preserved c =
    let s : State = c.loop-node.restoring in
    let r : Record = listed c.in-Some.listing in
    let left : Entries = map listed_pair (into_iter_items c.next.new.self) in
    let step = c.in-Some.ensures.steps.0 in
    let one = c.in_ok-push.ensures.ok in
    rw one (record {
      shown = ap (λ (t : State). record {
        limit = t.limit;
        number = t.number;
        next = t.next;
        records = s.records ++ (c.in-Some.node, r) ∷ [];
      }) c.loop-node.invariant.shown;
      all = append_assoc s.records ((c.in-Some.node, r) ∷ []) left
          ∙ (rw step at c.loop-node.invariant.all);
      left = sym (later-decide (push_faults s c.in-Some.node r)
          (entry_faults (pushed s c.in-Some.node r) left) c.in_ok-push.ensures.refused.0)
          ∙ (rw step at c.loop-node.invariant.left);
    })

pub returns-in_err-push-clause-refused : goal.returns-in_err-push-clause-refused
returns-in_err-push-clause-refused c =
    let s : State = c.loop-node.restoring in
    let r : Record = listed c.in-Some.listing in
    let left : Entries = map listed_pair (into_iter_items c.next.new.self) in
    let rows = rw c.in-Some.ensures.steps.0 at c.loop-node.invariant.left in
    let is : c.from_residual-in_err-push.result ≡ Err c.in_err-push.field-0.0 = search rules in
    rw is (
      tt,
      elim c.in_err-push.ensures.refused.1 [
        | inl out ↦ inl out
        | inr first ↦ inr (sym rows ∙ earlier-decides (push_faults s c.in-Some.node r)
            (entry_faults (pushed s c.in-Some.node r) left) c.in_err-push.field-0.0 first)
      ],
    )

pub returns-clause-value : goal.returns-clause-value
returns-clause-value c =
    let s : State = c.loop-node.restoring in
    let none = none-left (into_iter_items c.loop-node.node-iterator) _
    c.loop-node.node-iterator.rest.ok.0 c.in-None.ensures.steps.0 in
    let all = sym (ap (λ items. s.records ++ map listed_pair items) none)
    ∙ c.loop-node.invariant.all in
    let is : ◌≡◌ {A = State} s
    (state_with c.args.limit c.args.changes c.args.next c.args.records.items) =
    c.loop-node.invariant.shown ∙ ap (λ (es : Entries). record {
      limit = c.args.limit;
      number = c.args.changes;
      next = c.args.next;
      records = es;
    }) (sym (append-nil s.records) ∙ all) in
    subst (λ (t : State). IfOk c.finish.result (λ volume. volume ≡ t)) is c.finish.ensures.value
