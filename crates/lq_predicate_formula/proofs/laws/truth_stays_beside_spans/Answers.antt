use Rattle.lq_predicate_formula.proofs.SpanLemmas.{truth-beside}
use Rattle.lq_predicate_formula.proofs.laws.truth_stays_beside_spans.Goals as goal

pub returns : goal.returns
returns c = truth-beside
