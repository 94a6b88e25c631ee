use Rattle.lq_value.specs.declared.literal.Literal.TheVariants as literal
use Rattle.lq_predicate.proofs.FitLemmas.{capped_test}
use Rattle.lq_predicate.proofs.stack_fitting.fits_plain.Goals as goal

pub returns : goal.returns
returns c = capped_test _ _
    (c.comparison_size_with.ensures (literal.Plain c.args.text.now) c.plain_size.ensures)
