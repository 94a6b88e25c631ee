use Rattle.lq_update.proofs.FoldLaws.{results-rise}
use Rattle.lq_update.proofs.laws.results_rise.Goals as goal

pub returns : goal.returns
returns c = results-rise
