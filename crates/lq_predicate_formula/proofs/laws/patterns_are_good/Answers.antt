use Rattle.lq_predicate_formula.proofs.GoodLemmas.{read_good}
use Rattle.lq_predicate_formula.proofs.laws.patterns_are_good.Goals as goal

pub returns : goal.returns
returns c = read_good c.sources_are_read.ensures
