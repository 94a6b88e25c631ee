use Rattle.std.proofs.Common.{ap, sym, ◌∙◌}
use Rattle.std.specs.Str.{encode_utf8_all}
use Rattle.std.proofs.lemmas.Iterator.{YieldsList-from_chars}
use Rattle.std.proofs.lemmas.Iterator.Consumers.{YieldsList-end}
use Rattle.std.proofs.lemmas.List.{map-id}
use Rattle.lq_value.specs.Pattern.{plain_elements}
use Rattle.lq_predicate_formula.specs.Canonical.{pattern_text}
use Rattle.lq_predicate_formula.proofs.WritingLemmas.{plain_step, push_on}
use Rattle.lq_predicate_formula.proofs.write_comparison.put_plain_text.Goals as goal

pub loop-c-preserved : goal.loop-c-preserved
loop-c-preserved g c = push_on g.S.TextSink.after g.met.S.TextSink.joined _ _ _ _ _ _
    (plain_step c.loop-c.yielded c.in-Some.c) c.loop-c.invariant c.in_ok-put_plain.ensures

pub returns : goal.returns
returns g c =
    let t = YieldsList-end (YieldsList-from_chars c.args.text.now c.utf8.text cc) c.loop-c.yielded _
    c.loop-c.yielded_by _ _ c.in-None.is c.next.ensures.steps in
    c.loop-c.invariant
    ∙ ap (λ cs. g.S.TextSink.after (g.S.TextSink.seen c.args.out.now)
    (encode_utf8_all (pattern_text (plain_elements cs))))
    (sym (map-id c.loop-c.yielded) ∙ t.0)
