use Rattle.std.proofs.Common.{◌∙◌, ◌+◌, ◌*◌, [], ◌∷◌, ◌++◌, ap, decimal}
use Rattle.lq_script_request.proofs.PlainLemmas.{one-digit-line, two-digits-line}
use Rattle.lq_script_request.proofs.quick_read.plain_read.Goals as goal

pub returns-then-rest-eq-CLOSING-clause-line : goal.returns-then-rest-eq-CLOSING-clause-line
returns-then-rest-eq-CLOSING-clause-line c =
    let l = c.in_ok-rest.ensures.cases in
    let slot = c.in_ok-leading_digit.field-0 in
    let d = c.in_ok-leading_digit.ensures in
    one-digit-line c.as_bytes.result.now c.args.line.now c.in_ok-rest.rest.now slot
    l.0 l.1 c.if-rest-eq2.true c.if-rest-eq-CLOSING.true d.0 d.2
    ∙ ap (λ front. front ++ (decimal slot ++ 125 ∷ [])) c.as_bytes.ensures.value

pub returns-then-rest-eq-CLOSING-2-clause-line : goal.returns-then-rest-eq-CLOSING-2-clause-line
returns-then-rest-eq-CLOSING-2-clause-line c =
    let l = c.in_ok-rest.ensures.cases in
    let tens = c.in_ok-tens.tens in
    let ones = c.in_ok-digit.field-0 in
    let t = c.in_ok-tens.ensures in
    let d = c.in_ok-digit.ensures in
    two-digits-line c.as_bytes.result.now c.args.line.now c.in_ok-rest.rest.now tens ones
    l.0 l.1 c.if-rest-eq3.true c.if-rest-eq-CLOSING-2.true t.0 t.1 t.2 d.0 d.1
    ∙ ap (λ front. front ++ (decimal (tens * 10 + ones) ++ 125 ∷ [])) c.as_bytes.ensures.value
