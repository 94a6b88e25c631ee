use Rattle.lq_value_pattern.proofs.SourceLaws.{source_faulty}
use Rattle.lq_value_pattern.proofs.laws.faults_are_found.Goals as goal

pub returns : goal.returns
returns c = source_faulty
