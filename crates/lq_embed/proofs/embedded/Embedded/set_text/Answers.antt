use Rattle.std.proofs.Common.{◌∙◌, ℕ, List, sym, ap}
use Rattle.lq_value.specs.declared.refusal.Refusal.TheVariants.{NotUtf8}
use Rattle.lq_script_request.specs.Request.{asks_set, given_text, request_for}
use Rattle.lq_embed.specs.Requests.{in_utf8}
use Rattle.lq_embed.proofs.CallLemmas.{changes-as, changes-barred, if-not_utf8, if-utf8, in_utf8-refused}
use Rattle.lq_embed.proofs.embedded.Embedded.set_text.Goals as goal

pub returns-in_default : goal.returns-in_default
returns-in_default c = changes-barred NotUtf8
    (in_utf8-refused c.args.attr.now _
    (if-not_utf8 c.args.text.now _ _ c.in_default.ensures.cases.0)) c.status.ensures

pub returns : goal.returns
returns c =
    let text = c.in-Ok.ensures.cases in
    changes-as (ap (in_utf8 c.args.attr.now) (if-utf8 c.args.text.now _ _ text.1
    ∙ ap (λ (value : List ℕ). request_for (asks_set c.args.node c.args.attr.now
    (given_text value))) (sym text.0))) c.set_attr.ensures
