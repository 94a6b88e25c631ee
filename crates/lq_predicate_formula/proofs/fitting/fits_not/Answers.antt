use Rattle.std.proofs.Common.{sym, ◌∙◌}
use Rattle.lq_predicate_formula.proofs.TreeSizeLemmas.{not_too_deep, not_within}
use Rattle.lq_predicate_formula.proofs.fitting.fits_not.Goals as goal

pub returns-then-is_shallow : goal.returns-then-is_shallow
returns-then-is_shallow c = rw c.size.ensures (not_within c.args.tree.now
    (sym c.is_shallow.ensures ∙ c.if-is_shallow.true) c.requires)

pub returns-else-is_shallow : goal.returns-else-is_shallow
returns-else-is_shallow c = c.if-is_shallow.false ∙ not_too_deep c.args.tree.now
    (sym c.is_shallow.ensures ∙ c.if-is_shallow.false)
