use Rattle.lq_volume_entries.proofs.AttributeLemmas.{HasOwnNames-with, HasOwnNames-without}
use Rattle.lq_volume_entries.proofs.laws.names_stay_apart.Goals as goal

pub returns : goal.returns
returns c = record { set = HasOwnNames-with; removed = HasOwnNames-without }
