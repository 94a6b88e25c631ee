use Rattle.std.proofs.Common.{◌≡◌}
use Rattle.std.specs.Str.{encode_utf8_all}
use Rattle.lq_predicate_formula.specs.Canonical.{quoted}
use Rattle.lq_predicate_formula.proofs.write_comparison.put_quoted.Given as goal

abbrev pub invariant-loop-c : goal.invariant-loop-c
invariant-loop-c g l = g.S.TextSink.seen l.out
    ≡ g.S.TextSink.after (g.S.TextSink.seen l.fn.out) (quoted (encode_utf8_all l.yielded))
