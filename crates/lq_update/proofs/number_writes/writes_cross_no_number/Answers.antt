use Rattle.std.proofs.Common.{◌≡◌, ◌∙◌, sym, ap, refl, true, pos, None, rules, FitsSigned, w64, to_z, of_z, inl}
use Rattle.std.specs.Prelude.{codes}
use Rattle.std.proofs.lemmas.Int.{to_z-of_z}
use Rattle.lq_predicate.specs.declared.spans.Spans.{Spans}
use Rattle.lq_predicate.specs.Span.{is_outside, span_of}
use Rattle.lq_volume.specs.Plan.{WritesNumbers}
use Rattle.lq_volume.specs.Change.{after, clobbered, node_of}
use Rattle.lq_volume.specs.Result.{match_at}
use Rattle.lq_update.specs.Touched.{left}
use Rattle.lq_update.proofs.PassingOver.{match-numbers}
use Rattle.lq_update.proofs.TouchedLemmas.{left-same, step-plain, told-left}
use Rattle.lq_update.proofs.number_writes.writes_cross_no_number.Goals as goal

pub returns-then-is_beside_sizes : goal.returns-then-is_beside_sizes
returns-then-is_beside_sizes c q flags seq is unasked spans_are =
    let s = c.args.planned.now.before in
    let change = c.args.planned.now.change in
    let node = node_of s change in
    let w = c.in-Some.numbers in
    let are : WritesNumbers s change w = c.in-Some.ensures in
    let sizes : is_outside (span_of (codes "size") q) (pos w.old_size) (pos w.new_size) ≡ true =
    ap (λ (x : Spans). is_outside x.sizes (pos w.old_size) (pos w.new_size)) (sym spans_are)
    ∙ sym c.is_beside_sizes.ensures ∙ c.if-is_beside_sizes.true in
    let from_fits : FitsSigned w64 w.old_time = search rules in
    let to_fits : FitsSigned w64 w.new_time = search rules in
    let times : is_outside (span_of (codes "last_modified") q) w.old_time w.new_time ≡ true =
    ap (λ (x : Spans). is_outside x.times w.old_time w.new_time) (sym spans_are)
    ∙ sym (ap (λ t. is_outside c.args.spans.now.times t w.new_time)
    (to_z-of_z w64 w.old_time from_fits))
    ∙ sym (ap (λ t. is_outside c.args.spans.now.times (to_z w64 (of_z w64 w.old_time)) t)
    (to_z-of_z w64 w.new_time to_fits))
    ∙ sym c.is_beside_times.ensures ∙ is in
    let same : match_at q (after s change) node ≡ match_at q s node =
    match-numbers c.truth_stays_beside_spans.ensures q s change w are sizes times in
    step-plain q flags s change seq (inl unasked)
    ∙ sym (told-left c.changes_touch_few.ensures q flags.moved s change seq c.applied.ensures.volume
    c.applied.ensures.lawful _ None refl
    (ap (left (match_at q s node)) same ∙ left-same (match_at q s node))
    (ap (λ o. left o (match_at q s node)) same ∙ left-same (match_at q s node))
    (ap (clobbered s) are.write))
