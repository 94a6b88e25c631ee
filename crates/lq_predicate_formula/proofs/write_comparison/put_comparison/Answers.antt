use Rattle.std.proofs.Common.{ap, ◌∙◌}
use Rattle.lq_predicate_formula.proofs.WritingLemmas.{comparison_put}
use Rattle.lq_predicate_formula.proofs.write_comparison.put_comparison.Goals as goal

pub returns : goal.returns
returns g c =
    comparison_put g.S.TextSink.after g.met.S.TextSink.joined _ _ _ _ _ _ _ c.args.attr.now
    c.args.op c.args.literal.now c.in_ok-push_str.ensures c.in_ok-put_attr.ensures
    (c.in_ok-push_str-2.ensures
    ∙ ap (g.S.TextSink.after (g.S.TextSink.seen c.put_attr.new.out)) c.op_text.ensures)
    c.in_ok-push_str-3.ensures c.in_ok-put_literal.ensures c.in_ok-push_str-4.ensures
