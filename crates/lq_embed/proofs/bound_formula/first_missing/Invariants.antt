use Rattle.std.proofs.Common.{◌≡◌, drop}
use Rattle.lq_embed.specs.BoundFormula.{first_missing}
use Rattle.lq_embed.proofs.bound_formula.first_missing.Given as goal

abbrev pub invariant-loop-parameter : goal.invariant-loop-parameter
invariant-loop-parameter l = first_missing l.count l.parameters
    ≡ first_missing l.count (drop l.parameter-index l.parameters)
