use Rattle.std.proofs.Common.{◌≡◌, ap, sym, ◌∙◌, true}
use Rattle.lq_predicate.specs.Names.{names_of}
use Rattle.lq_predicate.specs.Spans.{spans_of}
use Rattle.lq_desk_sub.specs.Passing.{passes_over}
use Rattle.lq_desk_sub.proofs.live_query.LiveQuery.shows_nothing.Goals as goal

pub returns-then-looks_elsewhere : goal.returns-then-looks_elsewhere
returns-then-looks_elsewhere c flags seq is unasked =
    let q = c.args.self.now in
    let change = c.args.planned.now.change in
    let over : passes_over (names_of q) change ≡ true =
    ap (passes_over (names_of q)) (sym c.change.ensures)
    ∙ (sym c.looks_elsewhere.ensures ∙ c.if-looks_elsewhere.true) in
    c.passed_changes_tell_nothing.ensures q flags change unasked over c.args.planned.now.before seq
    c.applied.ensures.volume c.applied.ensures.lawful

pub returns-else-looks_elsewhere : goal.returns-else-looks_elsewhere
returns-else-looks_elsewhere c flags seq is unasked =
    let q = c.args.self.now in
    let spans : c.self.inside.spans ≡ spans_of q =
    c.self.invariant.3 ∙ ap spans_of c.self.view_is in
    c.writes_cross_no_number.ensures q flags seq is unasked spans
