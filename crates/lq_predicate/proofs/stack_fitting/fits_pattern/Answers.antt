use Rattle.lq_value.specs.declared.literal.Literal.TheVariants as literal
use Rattle.lq_predicate.proofs.FitLemmas.{capped_test}
use Rattle.lq_predicate.proofs.stack_fitting.fits_pattern.Goals as goal

pub returns : goal.returns
returns c = capped_test _ _
    (c.comparison_size_with.ensures (literal.Pattern c.args.pattern.now) c.pattern_size.ensures)
