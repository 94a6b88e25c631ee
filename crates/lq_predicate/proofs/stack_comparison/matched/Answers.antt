use Rattle.std.proofs.Common.{subst, sym}
use Rattle.lq_predicate_formula.specs.Limits.{IsGoodPattern}
use Rattle.lq_predicate.proofs.stack_comparison.matched.Goals as goal

pub comparison-requires-clause-proper : goal.comparison-requires-clause-proper
comparison-requires-clause-proper c = (
  c.in_ok-copy-2.ensures.valid,
  (
    c.requires c.in_ok-copy.field-0,
    subst IsGoodPattern (sym c.in_ok-copy.ensures.value) c.in-Some.ensures.good,
  ),
)
