use Rattle.std.proofs.Common.{◌≡◌, ◌∷◌, ap, arith, rules}
use Rattle.lq_predicate_formula.specs.Query.{queries}
use Rattle.lq_predicate_formula.specs.Canonical.{deepest}
use Rattle.lq_predicate_formula.proofs.PartLemmas.{depth_le-deepest}
use Rattle.lq_predicate_formula.proofs.TreeTextLemmas.{parts_begun, parts_on}
use Rattle.lq_predicate_formula.proofs.tree.+put.Goals as goal

pub query_text::put_parts-loop-part-init : goal.query_text::put_parts-loop-part-init
query_text::put_parts-loop-part-init g t c =
    let split : c.args.parts.now ≡ c.in-Some.first.now ∷ c.in-Some.others.now = search rules in
    parts_begun g.S.TextSink.after g.met.S.TextSink.joined _ _ _ c.args.separator.now
    c.in-Some.first.now c.in-Some.others.now c.args.parts.now split
    c.in_ok-push_str.ensures c.in_ok-put_in.ensures

pub query_text::put_parts-put_in-requires-in-loop-part :
    goal.query_text::put_parts-put_in-requires-in-loop-part
query_text::put_parts-put_in-requires-in-loop-part g t c =
    let split : c.args.parts.now ≡ c.in-Some.first.now ∷ c.in-Some.others.now = search rules in
    let deep = ap (λ ps. deepest (queries ps)) split in
    let falls = depth_le-deepest c.in-Some.others.now c.loop-part.part-index c.part-item.result
    c.loop-part-test.true c.part-item.is in
    λ κs within. (omega (arith, falls, deep), search rules)

pub query_text::put_parts-loop-part-preserved : goal.query_text::put_parts-loop-part-preserved
query_text::put_parts-loop-part-preserved g t c =
    parts_on g.S.TextSink.after g.met.S.TextSink.joined _ _ _ _ c.args.separator.now
    c.in-Some.others.now c.loop-part.part-index c.part-item.result c.loop-part-test.true
    c.part-item.is c.loop-part.invariant c.in_ok-push_str-2.ensures c.in_ok-put_in-2.ensures
