use Rattle.lq_volume_entries.proofs.AttributeLemmas.{value_of-with, value_of-without}
use Rattle.lq_volume_entries.proofs.laws.values_are_found.Goals as goal

pub returns : goal.returns
returns c = record { set = value_of-with; removed = value_of-without }
