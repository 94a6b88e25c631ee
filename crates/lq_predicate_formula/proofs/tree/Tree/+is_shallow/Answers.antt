use Rattle.lq_predicate_formula.proofs.PartLemmas.{not_flat}
use Rattle.lq_predicate_formula.proofs.tree.Tree.+is_shallow.Goals as goal

pub returns-then-most-eq0 : goal.returns-then-most-eq0
returns-then-most-eq0 t c = not_flat c.args.self.now c.args.most c.if-most-eq0.true
