use Rattle.std.proofs.Common.{◌∙◌, ℕ, List, sym, ap}
use Rattle.lq_script_request.specs.Request.{asks_fetch, request_for}
use Rattle.lq_embed.proofs.CallLemmas.{fetches-as, fetches-made, fetches-not_utf8, if-not_utf8, if-utf8}
use Rattle.lq_embed.proofs.embedded.Embedded.fetch.Goals as goal

pub returns-in_default : goal.returns-in_default
returns-in_default c = fetches-not_utf8
    (if-not_utf8 c.args.formula.now _ _ c.in_default.ensures.cases.0) c.status.ensures

pub returns : goal.returns
returns c =
    let text = c.in-Ok.ensures.cases in
    fetches-as (if-utf8 c.args.formula.now _ _ text.1
    ∙ ap (λ (formula : List ℕ). request_for (asks_fetch formula)) (sym text.0))
    (fetches-made c.look-response.ensures.responds c.look-response.ensures.stays
    c.fetched.ensures.status
    c.fetched.ensures.out c.fetched.ensures.after)
