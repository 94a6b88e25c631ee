use Rattle.lq_predicate_formula.proofs.CompleteLemmas as proofs
use Rattle.lq_predicate_formula.proofs.laws.reads_one.Goals as goal

pub returns : goal.returns
returns c = proofs.reads_one
