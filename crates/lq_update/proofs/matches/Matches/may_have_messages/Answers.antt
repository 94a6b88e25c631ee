use mathlib.Core.Bool.{beq}
use Rattle.std.proofs.Common.{◌≡◌, ◌∙◌, Bool, true, false, ◌⊎◌, inl, inr, not, refl, [], sym, ap, None}
use Rattle.std.specs.Prelude.{◌&&◌}
use Rattle.std.specs.Option.{option_map, option_copied}
use Rattle.lq_volume.specs.Change.{node_of}
use Rattle.lq_update.specs.Touched.{entry_at}
use Rattle.lq_update.specs.Values.{values_told}
use Rattle.lq_update.proofs.EntryLemmas.{none-of}
use Rattle.lq_update.proofs.TouchedLemmas.{match-unmatched, step-plain, told-left, told-unmatched}
use Rattle.lq_update.proofs.ValueLemmas.{before-none, written-none}
use Rattle.lq_update.proofs.matches.Matches.may_have_messages.Goals.{else-flags-via-then-flags+else-tells_value, else-flags-via-else-flags}
use Rattle.lq_update.proofs.matches.Matches.may_have_messages.Goals as goal

pub returns-then-not-self : goal.returns-then-not-self
returns-then-not-self c seq is =
    let self = c.args.self.now in
    let q = self.predicate.now in
    let s = self.planned.now.before in
    let change = self.planned.now.change in
    step-plain q c.args.flags s change seq (inr (before-none q s change
    (match-unmatched q (node_of s change) _ (sym self.asked_before ∙ c.if-not-self.true))))
    ∙ told-unmatched c.changes_touch_few.ensures q c.args.flags.moved s change seq
    c.applied.ensures.volume c.applied.ensures.lawful
    (sym c.clobbered.ensures.node
    ∙ ap (option_map (λ e. e.0)) (none-of _ (sym (c.if-is_some.ensures))))
    (sym self.asked_before ∙ c.if-not-self.true)
    (sym self.asked_after ∙ as-other _ _ c.if-self.false c.if-not-self.true)
  where
    as-other : (a b : Bool) → not (beq a b) ≡ false → a ≡ false → b ≡ false
    as-other a false h k = refl
    as-other true true h k = k
    as-other false true h k = cc

pub returns-else-is_some-2 : goal.returns-else-is_some-2
returns-else-is_some-2 c seq is =
    let self = c.args.self.now in
    let q = self.predicate.now in
    let s = self.planned.now.before in
    let change = self.planned.now.change in
    let node = node_of s change in
    let quiet : (c.args.flags.values ≡ false) ⊎ (values_told q s change ≡ []) =
    elim c.else-flags.branch [
      | else-flags-via-then-flags+else-tells_value w ↦ inr (written-none q s change (none-of _
          (last-false self.matched_before self.matches_after _
          (sym w.tells_value.ensures ∙ w.if-tells_value.false) c.if-not-self.false
          c.if-self.false)))
      | else-flags-via-else-flags w ↦ inl w.if-flags.false
    ] in
    step-plain q c.args.flags s change seq quiet
    ∙ sym (told-left c.changes_touch_few.ensures q c.args.flags.moved s change seq
    c.applied.ensures.volume c.applied.ensures.lawful _ None refl
    (sym c.difference.ensures.removed
    ∙ ap (λ o. entry_at node (option_copied o)) (none-of _ (sym (c.if-is_some-2.ensures))))
    (sym c.difference.ensures.created
    ∙ ap (λ o. entry_at node (option_copied o))
    (none-of _ (sym c.is_some-else-is_some-2.ensures ∙ is)))
    (sym c.clobbered.ensures.node
    ∙ ap (option_map (λ e. e.0)) (none-of _ (sym (c.if-is_some.ensures)))))
  where
    -- where the first two hold, the third doesn't
    last-false : (a b d : Bool) → (a && b && d) ≡ false → a ≡ true → not (beq a b) ≡ false
        → d ≡ false
    last-false true true d h k l = h
    last-false true false d h k l = cc
    last-false false b d h k l = cc
