use Rattle.lq_predicate_formula.proofs.OneReadingLemmas as each
use Rattle.lq_predicate_formula.proofs.laws.machine_reads.Goals as goal

pub returns : goal.returns
returns c = each.machine_reads
