use Rattle.lq_predicate_formula.proofs.TruthLemmas.{truth-names}
use Rattle.lq_predicate_formula.proofs.laws.truth_goes_by_names.Goals as goal

pub returns : goal.returns
returns c = truth-names
