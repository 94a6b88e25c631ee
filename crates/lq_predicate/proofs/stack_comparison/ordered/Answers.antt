use Rattle.std.proofs.Common.{sym, ◌∙◌}
use Rattle.std.proofs.lemmas.Result.{IfOk-from_err}
use Rattle.lq_value.specs.declared.literal.Literal.TheVariants as literal
use Rattle.lq_predicate_formula.specs.Query.{Compare}
use Rattle.lq_predicate.proofs.FitLemmas.{failed_within, within_none}
use Rattle.lq_predicate.proofs.stack_comparison.ordered.Goals as goal

pub comparison-requires-clause-suits : goal.comparison-requires-clause-suits
comparison-requires-clause-suits c = c.requires c.new.result

pub comparison-requires-clause-proper : goal.comparison-requires-clause-proper
comparison-requires-clause-proper c = (c.in_ok-copy.ensures.valid, (c.requires c.new.result, tt))

pub returns-then-not-fits_plain-clause-value : goal.returns-then-not-fits_plain-clause-value
returns-then-not-fits_plain-clause-value c =
    let q = Compare c.args.attr.now c.args.op (literal.Plain c.args.text.now) in
    within_none q (sym c.fits_plain.ensures ∙ c.if-not-fits_plain.true)

pub returns-in_err-from_str-clause-value : goal.returns-in_err-from_str-clause-value
returns-in_err-from_str-clause-value c =
    IfOk-from_err c.from_residual.result _ c.from_residual.ensures.0

pub returns-in_err-from_str-clause-err : goal.returns-in_err-from_str-clause-err
returns-in_err-from_str-clause-err c =
    let q = Compare c.args.attr.now c.args.op (literal.Plain c.args.text.now) in
    failed_within c.from_residual.result q (sym c.fits_plain.ensures ∙ c.if-not-fits_plain.false)

pub returns-in_err-copy-clause-value : goal.returns-in_err-copy-clause-value
returns-in_err-copy-clause-value c =
    IfOk-from_err c.from_residual-in_err-copy.result _ c.from_residual-in_err-copy.ensures.0

pub returns-in_err-copy-clause-err : goal.returns-in_err-copy-clause-err
returns-in_err-copy-clause-err c =
    let q = Compare c.args.attr.now c.args.op (literal.Plain c.args.text.now) in
    failed_within c.from_residual-in_err-copy.result q
    (sym c.fits_plain.ensures ∙ c.if-not-fits_plain.false)
