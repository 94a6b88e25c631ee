use Rattle.std.proofs.Common.{◌++◌, ◌∷◌, [], ◌∙◌, ap, arith}
use Rattle.std.specs.Prelude.{string_bytes}
use Rattle.serde_json.specs.Written.{has_float, compact_text}
use Rattle.lq_script_desk.specs.Answer.{response_of}
use Rattle.lq_core_tests.proofs.ReplyLemmas.{response-no_float}
use Rattle.lq_core_tests.proofs.plain_reply.line_of.Goals as goal

pub returns : goal.returns
returns c =
    let built = c.in_ok-value.ensures in
    let text = c.in_ok-text.ensures.text
    (ap has_float built ∙ response-no_float (response_of c.args.response.now)) in
    let pushed = c.in_ok-push.ensures in
    let said = text ∙ ap compact_text built in
    pushed.bytes ∙ (ap (λ end. string_bytes c.in_ok-text.text ++ end) (pushed.ascii (omega arith))
    ∙ ap (λ front. front ++ 10 ∷ []) said)
