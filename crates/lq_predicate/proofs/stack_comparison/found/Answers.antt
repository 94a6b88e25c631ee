use Rattle.std.proofs.Common.{refl, subst, sym, ◌∙◌}
use Rattle.std.proofs.lemmas.Result.{IfOk-from_err}
use Rattle.lq_value.specs.declared.literal.Literal.TheVariants as literal
use Rattle.lq_value.specs.declared.op.Op.TheVariants as op
use Rattle.lq_predicate_formula.specs.Limits.{IsGoodPattern}
use Rattle.lq_predicate_formula.specs.Query.{Compare}
use Rattle.lq_predicate.specs.Stack.{starred}
use Rattle.lq_predicate.proofs.FitLemmas.{failed_within, within_none, within_some}
use Rattle.lq_predicate.proofs.StarredLemmas.{starred_good}
use Rattle.lq_predicate.proofs.stack_comparison.found.Goals as goal

pub comparison-requires-clause-proper : goal.comparison-requires-clause-proper
comparison-requires-clause-proper c = (
  c.in_ok-copy.ensures.valid,
  (
    refl,
    subst IsGoodPattern (sym c.in_ok-starred.ensures.value)
        (starred_good c.args.before c.args.text.now c.args.behind c.utf8.text),
  ),
)

pub returns-then-not-fits_starred-clause-value : goal.returns-then-not-fits_starred-clause-value
returns-then-not-fits_starred-clause-value c =
    let q = Compare c.args.attr.now op.Eq (literal.Pattern
    (starred c.args.before c.args.text.now c.args.behind)) in
    within_none q (sym c.fits_starred.ensures ∙ c.if-not-fits_starred.true)

pub returns-in_err-starred-clause-value : goal.returns-in_err-starred-clause-value
returns-in_err-starred-clause-value c =
    IfOk-from_err c.from_residual.result _ c.from_residual.ensures.0

pub returns-in_err-starred-clause-err : goal.returns-in_err-starred-clause-err
returns-in_err-starred-clause-err c =
    let q = Compare c.args.attr.now op.Eq (literal.Pattern
    (starred c.args.before c.args.text.now c.args.behind)) in
    failed_within c.from_residual.result q
    (sym c.fits_starred.ensures ∙ c.if-not-fits_starred.false)

pub returns-in_err-copy-clause-value : goal.returns-in_err-copy-clause-value
returns-in_err-copy-clause-value c =
    IfOk-from_err c.from_residual-in_err-copy.result _ c.from_residual-in_err-copy.ensures.0

pub returns-in_err-copy-clause-err : goal.returns-in_err-copy-clause-err
returns-in_err-copy-clause-err c =
    let q = Compare c.args.attr.now op.Eq (literal.Pattern
    (starred c.args.before c.args.text.now c.args.behind)) in
    failed_within c.from_residual-in_err-copy.result q
    (sym c.fits_starred.ensures ∙ c.if-not-fits_starred.false)

pub comparison-requires-clause-within : goal.comparison-requires-clause-within
comparison-requires-clause-within c =
    rw (c.in_ok-copy.ensures.value, c.in_ok-starred.ensures.value)
    (sym c.fits_starred.ensures ∙ c.if-not-fits_starred.false)

pub returns-clause-value : goal.returns-clause-value
returns-clause-value c =
    rw (c.comparison.ensures, c.in_ok-copy.ensures.value, c.in_ok-starred.ensures.value)
    (within_some _ (sym c.fits_starred.ensures ∙ c.if-not-fits_starred.false))
