use Rattle.std.proofs.Common.{rules, ◌≡◌, Err}
use Rattle.lq_script_request.proofs.NameLemmas.{named_refused, named_value}
use Rattle.lq_script_request.proofs.parse_line.unsetting.Goals as goal

pub returns-in_err-attr-clause-refused : goal.returns-in_err-attr-clause-refused
returns-in_err-attr-clause-refused c =
    let e = c.in_err-attr.field-0.0 in
    let is : c.from_residual.result ≡ Err e = search rules in
    rw is (named_refused _ _ e c.in_err-attr.ensures.refused.1)

pub returns-clause-value : goal.returns-clause-value
returns-clause-value c =
    rw c.in_ok-attr.ensures.value (named_value _ _ c.in_ok-attr.ensures.refused.0)
