use Rattle.std.proofs.Common.{◌≡◌, ◌++◌, drop}
use Rattle.lq_embed.specs.BoundFormula.{replaced_from}
use Rattle.lq_embed.proofs.bound_formula.replace.Given as goal

abbrev pub invariant-loop-parameter : goal.invariant-loop-parameter
invariant-loop-parameter l = l.text.items
    ++ replaced_from l.values l.formula l.at (drop l.parameter-index l.parameters)
    ≡ replaced_from l.values l.formula 0 l.parameters
