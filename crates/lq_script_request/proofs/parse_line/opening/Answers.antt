use Rattle.std.proofs.Common.{rules, ◌≡◌, ap, refl, Err}
use Rattle.lq_script_request.specs.Request.{opening_or}
use Rattle.lq_script_request.proofs.FormulaLemmas.{reading_of-reads, reading_of-refused}
use Rattle.lq_script_request.proofs.parse_line.opening.Goals as goal

pub returns-in_err-predicate-clause-refused : goal.returns-in_err-predicate-clause-refused
returns-in_err-predicate-clause-refused c =
    let e = c.in_err-predicate.field-0.0 in
    let is : c.from_residual.result ≡ Err e = search rules in
    rw is (reading_of-refused c.args.query.now e
    (λ r. opening_or r c.args.options) (c.one_reading.ensures _)
    (λ place. refl) c.in_err-predicate.ensures.fails)

pub returns-clause-value : goal.returns-clause-value
returns-clause-value c =
    ap (λ r. opening_or r c.args.options)
    (reading_of-reads c.args.query.now c.in_ok-predicate.predicate (c.one_reading.ensures _)
    c.in_ok-predicate.ensures.reads)
