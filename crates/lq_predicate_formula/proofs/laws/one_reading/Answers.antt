use Rattle.lq_predicate_formula.proofs.OneReadingLemmas as each
use Rattle.lq_predicate_formula.proofs.laws.one_reading.Goals as goal

pub returns : goal.returns
returns c = each.one_reading
