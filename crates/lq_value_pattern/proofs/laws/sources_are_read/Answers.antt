use Rattle.lq_value_pattern.proofs.SourceLaws.{source_written}
use Rattle.lq_value_pattern.proofs.laws.sources_are_read.Goals as goal

pub returns : goal.returns
returns c = source_written
