use Rattle.std.proofs.Common.{◌≡◌, drop}
use Rattle.std.specs.Str.{encode_utf8_all}
use Rattle.lq_predicate_formula.specs.Canonical.{pattern_text}
use Rattle.lq_predicate_formula.proofs.write_comparison.put_list.Given as goal

abbrev pub invariant-loop-element : goal.invariant-loop-element
invariant-loop-element g l =
    g.S.TextSink.after (g.S.TextSink.seen l.out)
    (encode_utf8_all (pattern_text (drop l.element-index l.elements)))
    ≡ g.S.TextSink.after (g.S.TextSink.seen l.fn.out) (encode_utf8_all (pattern_text l.elements))
