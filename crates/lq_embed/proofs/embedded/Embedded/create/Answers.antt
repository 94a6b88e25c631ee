use Rattle.std.proofs.Common.{◌∙◌, ℕ, ℤ, List, sym, ap, to_z-of_z}
use Rattle.lq_value.specs.declared.refusal.Refusal.TheVariants.{BadLine, NotUtf8}
use Rattle.lq_value.specs.declared.kind.Kind.{Kind}
use Rattle.std.specs.Prelude.{Option}
use Rattle.lq_script_request.specs.Request.{asks_create, request_for}
use Rattle.lq_embed.specs.Requests.{creation}
use Rattle.lq_embed.proofs.CallLemmas.{changes-as, changes-barred, if-not_utf8, if-utf8}
use Rattle.lq_embed.proofs.embedded.Embedded.create.Goals as goal

pub returns-in_default : goal.returns-in_default
returns-in_default c = changes-barred NotUtf8
    (if-not_utf8 c.args.name.now _ _ c.in_default.ensures.cases.0) c.status.ensures

pub returns-in_default-kind_numbered : goal.returns-in_default-kind_numbered
returns-in_default-kind_numbered c =
    let text = c.in-Ok.ensures.cases in
    changes-barred BadLine (if-utf8 c.args.name.now _ _ text.1
    ∙ ap (λ (kind : Option Kind). creation c.args.dir c.args.name.now c.args.size c.args.time kind)
    (sym c.in_default-kind_numbered.ensures)) c.status-in_default-kind_numbered.ensures

pub returns : goal.returns
returns c =
    let text = c.in-Ok.ensures.cases in
    changes-as (if-utf8 c.args.name.now _ _ text.1
    ∙ ap (λ (kind : Option Kind). creation c.args.dir c.args.name.now c.args.size c.args.time kind)
    (sym c.in-Some.ensures)
    ∙ ap (λ (name : List ℕ). request_for (asks_create c.args.dir name c.in-Some.kind c.args.size
    c.args.time)) (sym text.0)
    ∙ ap (λ (time : ℤ). request_for (asks_create c.args.dir c.in-Ok.name.now c.in-Some.kind
    c.args.size time)) (sym (to_z-of_z c.ranges.time))) (record {
      answer = _;
      asks = c.answer_request-reply.ensures.asks;
      code = c.applied.ensures.status;
      out = c.applied.ensures.out;
      beside = c.answer_request-reply.ensures.beside;
    })
