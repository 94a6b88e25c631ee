use Rattle.std.proofs.Common.{◌∙◌, ℕ, List, sym, ap}
use Rattle.lq_value.specs.declared.refusal.Refusal.TheVariants.{NotUtf8}
use Rattle.lq_script_request.specs.Request.{asks_unset, request_for}
use Rattle.lq_embed.proofs.CallLemmas.{changes-as, changes-barred, if-not_utf8, if-utf8}
use Rattle.lq_embed.proofs.embedded.Embedded.unset.Goals as goal

pub returns-in_default : goal.returns-in_default
returns-in_default c = changes-barred NotUtf8
    (if-not_utf8 c.args.attr.now _ _ c.in_default.ensures.cases.0) c.status.ensures

pub returns : goal.returns
returns c =
    let text = c.in-Ok.ensures.cases in
    changes-as (if-utf8 c.args.attr.now _ _ text.1
    ∙ ap (λ (attr : List ℕ). request_for (asks_unset c.args.node attr)) (sym text.0)) (record {
      answer = _;
      asks = c.answer_request.ensures.asks;
      code = c.applied.ensures.status;
      out = c.applied.ensures.out;
      beside = c.answer_request.ensures.beside;
    })
