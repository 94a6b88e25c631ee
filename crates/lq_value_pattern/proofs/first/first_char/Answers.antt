use Rattle.std.proofs.Common.{◌++◌, sym, ap, ◌∙◌, length, length-append, ◌+◌, encode_utf8, chars}
use Rattle.std.proofs.lemmas.List.{nil_from_length}
use Rattle.std.proofs.lemmas.Str.{chars-nil, chars_past_char, length-encode}
use Rattle.lq_value_pattern.proofs.first.first_char.Goals as goal

pub returns-in-Some-clause-value : goal.returns-in-Some-clause-value
returns-in-Some-clause-value c =
    chars_past_char c.args.text.now c.as_str.result.now c.in-Some.c c.utf8.text
    (sym c.chars-all.ensures.rest ∙ c.in-Some.ensures.steps.0
    ∙ ap (λ l. encode_utf8 c.in-Some.c ++ l) (sym c.as_str.ensures))

pub returns-in-Some-clause-len : goal.returns-in-Some-clause-len
returns-in-Some-clause-len c =
    ap length (sym c.chars-all.ensures.rest ∙ c.in-Some.ensures.steps.0
    ∙ ap (λ l. encode_utf8 c.in-Some.c ++ l) (sym c.as_str.ensures))
    ∙ length-append (encode_utf8 c.in-Some.c) c.as_str.result.now
    ∙ ap (λ n. n + length c.as_str.result.now) (length-encode c.in-Some.c)

pub returns-in-None-clause-value : goal.returns-in-None-clause-value
returns-in-None-clause-value c = ap chars (sym c.chars-all.ensures.rest
    ∙ nil_from_length c.chars-all.result.rest.now c.in-None.ensures.steps.0.0) ∙ chars-nil
