use Rattle.std.proofs.Common.{sym, ap, ◌∙◌, drop, ◌+◌}
use Rattle.lq_predicate_formula.specs.Query.{queries}
use Rattle.lq_predicate_formula.specs.Span.{numbers_of, all_numbers, widened}
use Rattle.lq_predicate_formula.proofs.SpanLemmas.{widened-append}
use Rattle.lq_predicate_formula.proofs.PartLemmas.{parts_here}
use Rattle.lq_predicate_formula.proofs.tree.Tree.+add_numbers.Goals as goal

pub loop-part-preserved : goal.loop-part-preserved
loop-part-preserved t c =
    let here = parts_here (all_numbers c.args.attr.now) c.deref-part-items.result.now
    c.loop-part.part-index c.part-item.result c.loop-part-test.true c.part-item.is in
    let rest = all_numbers c.args.attr.now
    (queries (drop (c.loop-part.part-index + 1) c.deref-part-items.result.now)) in
    let numbers = numbers_of c.args.attr.now c.part-item.result in
    let more = widened-append c.loop-part.span numbers rest in
    ap (λ span. widened span rest) c.add_numbers-in-loop-part.ensures ∙ sym more
    ∙ ap (widened c.loop-part.span) (sym here) ∙ c.loop-part.invariant
