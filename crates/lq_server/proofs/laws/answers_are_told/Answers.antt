use Rattle.lq_server.proofs.HeadlineLemmas.{answers_told}
use Rattle.lq_server.proofs.laws.answers_are_told.Goals as goal

pub returns : goal.returns
returns c = answers_told c.folds_give_results.ensures c.whole_folds_give_results.ensures
