use Rattle.std.proofs.Common.{◌∙◌, ap, sym, Some, inl, append-nil}
use Rattle.std.specs.Option.{option_copied, option_map}
use Rattle.lq_volume.specs.Change.{node_of}
use Rattle.lq_volume.specs.Result.{entry_of}
use Rattle.lq_update.specs.Touched.{entry_at}
use Rattle.lq_update.proofs.TouchedLemmas.{step-plain, told-left, told-came}
use Rattle.lq_update.proofs.ValueLemmas.{TellsNoPlace, no-moves, no-values, place-told, value-alone}
use Rattle.lq_update.proofs.matches.Matches.put_step.Goals.{in_default-via-in-Some+in-None+in_default, in_default-via-in-Some+in_default, in_default-via-in-None+in-Some+in_default, in_default-via-in-None+in-None+in_default}
use Rattle.lq_update.proofs.matches.Matches.put_step.Goals as goal

pub returns-in-Some-None-None-clause-ok : goal.returns-in-Some-None-None-clause-ok
returns-in-Some-None-None-clause-ok c =
    let self = c.args.self.now in
    let q = self.predicate.now in
    let s = self.planned.now.before in
    let change = self.planned.now.change in
    let made = c.applied-made.ensures in
    let node = node_of s change in
    let now = c.in-Some-None-None.left.now in
    let gone = sym c.difference.ensures.removed
    ∙ ap (λ o. entry_at node (option_copied o)) c.in-Some-None-None.is-0
    ∙ ap (λ n. Some (entry_of (n, now))) (sym (ap (λ m. m.node) made.value)) in
    rw (told-left c.changes_touch_few.ensures q c.args.flags.moved s change c.args.first_seq
    made.volume made.lawful c.applied-made.result.change
    (Some (entry_of (c.applied-made.result.node, now))) (ap (λ m. m.change) made.value) gone
    (sym c.difference.ensures.created
    ∙ ap (λ o. entry_at node (option_copied o)) c.in-Some-None-None.is-1)
    (sym c.clobbered.ensures.node ∙ ap (option_map (λ e. e.0)) c.in-Some-None-None.is-2)
    ∙ sym (no-values c.changes_touch_few.ensures q c.args.flags s change c.args.first_seq
    made.volume made.lawful (place-told q s change (λ none. cc (gone, none.left)))))
    at c.put_one.ensures.ok

pub returns-in-None-Some-None-clause-ok : goal.returns-in-None-Some-None-clause-ok
returns-in-None-Some-None-clause-ok c =
    let self = c.args.self.now in
    let q = self.predicate.now in
    let s = self.planned.now.before in
    let change = self.planned.now.change in
    let made = c.applied-made.ensures in
    let node = node_of s change in
    let now = c.in-None-Some-None.came.now in
    let came = sym c.difference.ensures.created
    ∙ ap (λ o. entry_at node (option_copied o)) c.in-None-Some-None.is-1
    ∙ ap (λ n. Some (entry_of (n, now))) (sym (ap (λ m. m.node) made.value)) in
    rw (told-came c.changes_touch_few.ensures q c.args.flags.moved s change c.args.first_seq
    made.volume made.lawful c.applied-made.result.change
    (entry_of (c.applied-made.result.node, now)) (ap (λ m. m.change) made.value)
    (sym c.difference.ensures.removed
    ∙ ap (λ o. entry_at node (option_copied o)) c.in-None-Some-None.is-0)
    came
    (sym c.clobbered.ensures.node ∙ ap (option_map (λ e. e.0)) c.in-None-Some-None.is-2)
    ∙ sym (no-values c.changes_touch_few.ensures q c.args.flags s change c.args.first_seq
    made.volume made.lawful (place-told q s change (λ none. cc (came, none.came)))))
    at c.put_one-in-None-Some-None.ensures.ok

pub returns-then-flags-clause-ok : goal.returns-then-flags-clause-ok
returns-then-flags-clause-ok c =
    let self = c.args.self.now in
    let s = self.planned.now.before in
    let change = self.planned.now.change in
    let made = c.applied-made.ensures in
    let node = node_of s change in
    rw (sym (value-alone c.changes_touch_few.ensures self.predicate.now c.args.flags s change
    c.args.first_seq made.volume made.lawful (record {
      left = sym c.difference.ensures.removed
          ∙ ap (λ o. entry_at node (option_copied o)) c.in-None-None-None.is-0;
      came = sym c.difference.ensures.created
          ∙ ap (λ o. entry_at node (option_copied o)) c.in-None-None-None.is-1;
      clobbered = sym c.clobbered.ensures.node
          ∙ ap (option_map (λ e. e.0)) c.in-None-None-None.is-2;
    }) c.if-flags.true)) at c.put_value.ensures.ok

pub returns-else-flags-clause-ok : goal.returns-else-flags-clause-ok
returns-else-flags-clause-ok c =
    let self = c.args.self.now in
    let s = self.planned.now.before in
    let change = self.planned.now.change in
    let made = c.applied-made.ensures in
    let node = node_of s change in
    rw (step-plain self.predicate.now c.args.flags s change c.args.first_seq (inl c.if-flags.false)
    ∙ no-moves c.changes_touch_few.ensures self.predicate.now c.args.flags s change
    c.args.first_seq made.volume made.lawful (record {
      left = sym c.difference.ensures.removed
          ∙ ap (λ o. entry_at node (option_copied o)) c.in-None-None-None.is-0;
      came = sym c.difference.ensures.created
          ∙ ap (λ o. entry_at node (option_copied o)) c.in-None-None-None.is-1;
      clobbered = sym c.clobbered.ensures.node
          ∙ ap (option_map (λ e. e.0)) c.in-None-None-None.is-2;
    })) (sym (append-nil c.args.messages.now.items))

pub returns-in_default-clause-ok : goal.returns-in_default-clause-ok
returns-in_default-clause-ok c =
    let self = c.args.self.now in
    let q = self.predicate.now in
    let s = self.planned.now.before in
    let change = self.planned.now.change in
    let made = c.applied-made.ensures in
    let node = node_of s change in
    let some : TellsNoPlace q s change → ⊥ = λ none. elim c.in_default.branch [
      | in_default-via-in-Some+in-None+in_default w ↦
          let is = sym none.clobbered ∙ (sym c.clobbered.ensures.node
          ∙ ap (option_map (λ e. e.0)) w.in_default.is-2) in cc
      | in_default-via-in-Some+in_default w ↦
          let is = sym none.left ∙ (sym c.difference.ensures.removed
          ∙ ap (λ o. entry_at node (option_copied o)) w.in_default.is-0) in cc
      | in_default-via-in-None+in-Some+in_default w ↦
          let is = sym none.clobbered ∙ (sym c.clobbered.ensures.node
          ∙ ap (option_map (λ e. e.0)) w.in_default.is-2) in cc
      | in_default-via-in-None+in-None+in_default w ↦
          let is = sym none.clobbered ∙ (sym c.clobbered.ensures.node
          ∙ ap (option_map (λ e. e.0)) w.in_default.is-2) in cc
    ] in
    rw (sym (no-values c.changes_touch_few.ensures q c.args.flags s change c.args.first_seq
    made.volume made.lawful (place-told q s change some))) at c.put_joined.ensures.ok
