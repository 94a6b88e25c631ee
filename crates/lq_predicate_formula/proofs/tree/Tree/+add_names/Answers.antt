use Rattle.std.proofs.Common.{sym, ap, ◌∙◌, drop, ◌+◌}
use Rattle.lq_predicate_formula.specs.Query.{queries}
use Rattle.lq_predicate_formula.specs.Names.{attributes, all_attributes, each_once}
use Rattle.lq_predicate_formula.proofs.PartLemmas.{each_once-append, parts_here}
use Rattle.lq_predicate_formula.proofs.tree.Tree.+add_names.Goals as goal

pub loop-part-preserved : goal.loop-part-preserved
loop-part-preserved t c =
    let here = parts_here all_attributes c.deref-part-items.result.now c.loop-part.part-index
    c.part-item.result c.loop-part-test.true c.part-item.is in
    let rest =
    all_attributes (queries (drop (c.loop-part.part-index + 1) c.deref-part-items.result.now)) in
    let more = each_once-append c.loop-part.names.items (attributes c.part-item.result) rest in
    ap (λ names. each_once names rest) c.in_ok-add_names-in-And.ensures.value ∙ sym more
    ∙ ap (each_once c.loop-part.names.items) (sym here) ∙ c.loop-part.invariant
