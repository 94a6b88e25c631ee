use Rattle.lq_predicate_formula.proofs.TruthLemmas.{needs-bare}
use Rattle.lq_predicate_formula.proofs.laws.bare_rows_fail.Goals as goal

pub returns : goal.returns
returns c = needs-bare
