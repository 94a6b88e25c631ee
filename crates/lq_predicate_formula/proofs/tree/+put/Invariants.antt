use Rattle.std.proofs.Common.{◌≡◌, ◌+◌, ◌*◌, ◌∷◌, [], drop}
use Rattle.lq_predicate_formula.specs.Query.{queries}
use Rattle.lq_predicate_formula.specs.Canonical.{depth, deepest, parts_written, others_written}
use Rattle.lq_predicate_formula.proofs.tree.+put.Given as goal

abbrev pub decreases-Tree::put_in : goal.decreases-Tree::put_in
decreases-Tree::put_in g l = 2 * depth l.self.now + 1

abbrev pub decreases-query_text::put_parts : goal.decreases-query_text::put_parts
decreases-query_text::put_parts g l = 2 * deepest (queries l.parts.now) + 2

abbrev pub invariant-query_text::put_parts-loop-part :
    goal.invariant-query_text::put_parts-loop-part
invariant-query_text::put_parts-loop-part g l =
    g.S.TextSink.after (g.S.TextSink.seen l.out)
    (others_written l.separator (queries (drop l.part-index l.others)) (41 ∷ []))
    ≡ g.S.TextSink.after (g.S.TextSink.seen l.fn.out)
    (40 ∷ parts_written l.separator (queries l.parts) (41 ∷ []))
