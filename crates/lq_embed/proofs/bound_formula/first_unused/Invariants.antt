use Rattle.std.proofs.Common.{◌≡◌, ◌+◌, drop}
use Rattle.lq_embed.specs.BoundFormula.{first_unused}
use Rattle.lq_embed.proofs.bound_formula.first_unused.Given as goal

abbrev pub invariant-loop-index : goal.invariant-loop-index
invariant-loop-index l = first_unused l.parameters 1 l.values
    ≡ first_unused l.parameters (l.index + 1) (drop l.index l.values)
