use Rattle.lq_server.proofs.LawLemmas.{refused_late}
use Rattle.lq_server.proofs.laws.first_closes_are_refused_late.Goals as goal

pub returns : goal.returns
returns c = refused_late
