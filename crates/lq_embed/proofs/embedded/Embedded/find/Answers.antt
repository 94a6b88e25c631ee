use Rattle.std.proofs.Common.{◌∙◌, ℕ, List, sym, ap}
use Rattle.lq_script_request.specs.Request.{asks_find, request_for}
use Rattle.lq_embed.proofs.CallLemmas.{finds-as, finds-not_utf8, if-not_utf8, if-utf8}
use Rattle.lq_embed.proofs.embedded.Embedded.find.Goals as goal

pub returns-in_default : goal.returns-in_default
returns-in_default c = finds-not_utf8
    (if-not_utf8 c.args.name.now _ _ c.in_default.ensures.cases.0) c.status.ensures

pub returns : goal.returns
returns c =
    let text = c.in-Ok.ensures.cases in
    finds-as (if-utf8 c.args.name.now _ _ text.1
    ∙ ap (λ (name : List ℕ). request_for (asks_find c.args.dir name)) (sym text.0)) (record {
      response = _;
      responds = c.look.ensures.responds;
      code = c.put_node.ensures.status;
      out = c.put_node.ensures.out;
      stays = c.look.ensures.stays;
    })
