use Rattle.std.proofs.Common.{◌∙◌, ℕ, List, sym, ap}
use Rattle.lq_value.specs.declared.refusal.Refusal.TheVariants.{NotUtf8}
use Rattle.lq_desk_world.specs.declared.event.Event.TheVariants.{Change}
use Rattle.lq_script_request.specs.declared.request.Request.TheVariants.{Event}
use Rattle.lq_script_request.specs.Asked.{given}
use Rattle.lq_script_request.specs.Request.{asks_set, request_for}
use Rattle.lq_embed.specs.Requests.{set_request}
use Rattle.lq_embed.specs.Restorer.{attr_outcome, restores}
use Rattle.lq_embed.proofs.CallLemmas.{if-not_utf8, if-utf8}
use Rattle.lq_embed.proofs.RestorerLemmas.{gives-as, gives-refused, gives-set, gives-unread}
use Rattle.lq_embed.proofs.restorer.Restorer.attr.Goals as goal

pub returns-in_default : goal.returns-in_default
returns-in_default c = gives-refused (restores c.args.self.now)
    (set_request 0 c.args.attr.now (given c.args.value)) NotUtf8 c.status.result
    (if-not_utf8 c.args.attr.now _ _ c.in_default.ensures.cases.0) c.status.ensures

pub returns-in-Ok-Event-Change-SetAttr : goal.returns-in-Ok-Event-Change-SetAttr
returns-in-Ok-Event-Change-SetAttr c =
    let text = c.in-Ok.ensures.cases in
    let it = c.in-Ok-Event-Change-SetAttr in
    gives-set (restores c.args.self.now) (restores c.add.new.self)
    (set_request 0 c.args.attr.now (given c.args.value)) it.field-0 it.field-0-0-0-0 it.attr
    it.value
    c.add.result
    (if-utf8 c.args.attr.now _ _ text.1
    ∙ (ap (λ (attr : List ℕ). request_for (asks_set 0 attr (given c.args.value))) (sym text.0)
    ∙ it.ensures.value))
    (it.field-0-is ∙ (ap Event it.field-0-0-is ∙ ap (λ x. Event (Change x)) it.field-0-0-0-is))
    c.add.ensures

pub returns : goal.returns
returns c =
    let text = c.in-Ok.ensures.cases in
    gives-as (attr_outcome (restores c.args.self.now)
    (set_request 0 c.args.attr.now (given c.args.value))) (attr_outcome (restores c.args.self.now)
    (request_for (asks_set 0 c.in-Ok.attr.now (given c.args.value)))) (restores c.args.self.now)
    (restores c.args.self.now) c.status-in-Err.result (ap (attr_outcome (restores c.args.self.now))
    (if-utf8 c.args.attr.now _ _ text.1
    ∙ ap (λ (attr : List ℕ). request_for (asks_set 0 attr (given c.args.value))) (sym text.0)))
    (gives-unread (restores c.args.self.now)
    (request_for (asks_set 0 c.in-Ok.attr.now (given c.args.value))) c.in-Err.refusal
    c.status-in-Err.result c.in-Err.ensures.refused c.status-in-Err.ensures)
