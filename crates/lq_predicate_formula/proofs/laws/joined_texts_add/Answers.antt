use Rattle.lq_predicate_formula.proofs.TreeSizeLemmas.{joined-add}
use Rattle.lq_predicate_formula.proofs.laws.joined_texts_add.Goals as goal

pub returns : goal.returns
returns c = joined-add
