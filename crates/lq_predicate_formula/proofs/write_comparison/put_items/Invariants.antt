use Rattle.std.proofs.Common.{◌≡◌, [], drop}
use Rattle.std.specs.Str.{encode_utf8_all}
use Rattle.lq_predicate_formula.specs.Canonical.{items_then}
use Rattle.lq_predicate_formula.proofs.write_comparison.put_items.Given as goal

abbrev pub invariant-loop-item : goal.invariant-loop-item
invariant-loop-item g l =
    g.S.TextSink.after (g.S.TextSink.seen l.out)
    (encode_utf8_all (items_then (drop l.item-index l.items) []))
    ≡ g.S.TextSink.after (g.S.TextSink.seen l.fn.out) (encode_utf8_all (items_then l.items []))
