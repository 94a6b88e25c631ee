use Rattle.std.proofs.Common.{◌≡◌}
use Rattle.std.specs.Str.{encode_utf8_all}
use Rattle.lq_value.specs.Pattern.{plain_elements}
use Rattle.lq_predicate_formula.specs.Canonical.{pattern_text}
use Rattle.lq_predicate_formula.proofs.write_comparison.put_plain_text.Given as goal

abbrev pub invariant-loop-c : goal.invariant-loop-c
invariant-loop-c g l = g.S.TextSink.seen l.out ≡ g.S.TextSink.after (g.S.TextSink.seen l.fn.out)
    (encode_utf8_all (pattern_text (plain_elements l.yielded)))
