use Rattle.std.proofs.Common.{ap, sym, ◌∙◌}
use Rattle.std.specs.Str.{encode_utf8_all}
use Rattle.std.proofs.lemmas.Iterator.{YieldsList-from_chars}
use Rattle.std.proofs.lemmas.Iterator.Consumers.{YieldsList-end}
use Rattle.std.proofs.lemmas.List.{map-id}
use Rattle.std.proofs.lemmas.Str.{encodes-chars}
use Rattle.lq_predicate_formula.specs.Canonical.{quoted}
use Rattle.lq_predicate_formula.proofs.WritingLemmas.{push_on, quoted_char_step}
use Rattle.lq_predicate_formula.proofs.write_comparison.put_quoted.Goals as goal

pub loop-c-preserved : goal.loop-c-preserved
loop-c-preserved g c = push_on g.S.TextSink.after g.met.S.TextSink.joined _ _ _ _ _ _
    (quoted_char_step c.loop-c.yielded c.in-Some.c) c.loop-c.invariant
    c.in_ok-put_quoted_char.ensures

pub returns : goal.returns
returns g c =
    let t = YieldsList-end (YieldsList-from_chars c.args.text.now c.utf8.text cc) c.loop-c.yielded _
    c.loop-c.yielded_by _ _ c.in-None.is c.next.ensures.steps in
    let before = g.S.TextSink.seen c.args.out.now in
    c.loop-c.invariant
    ∙ ap (λ cs. g.S.TextSink.after before (quoted (encode_utf8_all cs)))
    (sym (map-id c.loop-c.yielded) ∙ t.0)
    ∙ ap (λ bs. g.S.TextSink.after before (quoted bs)) (encodes-chars c.args.text.now c.utf8.text)
