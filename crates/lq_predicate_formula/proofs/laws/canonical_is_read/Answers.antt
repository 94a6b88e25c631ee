use Rattle.lq_predicate_formula.proofs.RoundLemmas.{canonical_reads}
use Rattle.lq_predicate_formula.proofs.laws.canonical_is_read.Goals as goal

pub returns : goal.returns
returns c = canonical_reads c.sources_are_read.ensures
