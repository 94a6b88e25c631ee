use Rattle.std.proofs.Common.{◌∙◌, ℕ, List, sym, ap}
use Rattle.lq_value.specs.declared.refusal.Refusal.TheVariants.{NotUtf8}
use Rattle.lq_script_request.specs.Request.{asks_set, given_text, request_for}
use Rattle.lq_embed.specs.Requests.{in_utf8, set_text_request}
use Rattle.lq_embed.specs.Restorer.{attr_outcome, restores}
use Rattle.lq_embed.proofs.CallLemmas.{if-not_utf8, if-utf8, in_utf8-refused}
use Rattle.lq_embed.proofs.RestorerLemmas.{gives-as, gives-refused}
use Rattle.lq_embed.proofs.restorer.Restorer.attr_text.Goals as goal

pub returns-in_default : goal.returns-in_default
returns-in_default c = gives-refused (restores c.args.self.now)
    (set_text_request 0 c.args.attr.now c.args.text.now) NotUtf8 c.status.result
    (in_utf8-refused c.args.attr.now _
    (if-not_utf8 c.args.text.now _ _ c.in_default.ensures.cases.0)) c.status.ensures

pub returns : goal.returns
returns c =
    let text = c.in-Ok.ensures.cases in
    gives-as (attr_outcome (restores c.args.self.now)
    (set_text_request 0 c.args.attr.now c.args.text.now)) (attr_outcome (restores c.args.self.now)
    (in_utf8 c.args.attr.now (request_for (asks_set 0 c.args.attr.now
    (given_text c.in-Ok.text.now)))))
    (restores c.args.self.now) (restores c.attr.new.self) c.attr.result
    (ap (attr_outcome (restores c.args.self.now)) (ap (in_utf8 c.args.attr.now)
    (if-utf8 c.args.text.now _ _ text.1
    ∙ ap (λ (value : List ℕ). request_for (asks_set 0 c.args.attr.now (given_text value)))
    (sym text.0)))) c.attr.ensures
