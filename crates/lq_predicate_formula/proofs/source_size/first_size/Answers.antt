use Rattle.std.proofs.Common.{subst, sym}
use Rattle.lq_predicate_formula.specs.Sizes.{IsSized}
use Rattle.lq_predicate_formula.proofs.source_size.first_size.Goals as goal

pub returns-in-Opens : goal.returns-in-Opens
returns-in-Opens c =
    subst (λ first. IsSized first c.set_size.result) (sym c.in-Opens.ensures.first)
    c.set_size.ensures
