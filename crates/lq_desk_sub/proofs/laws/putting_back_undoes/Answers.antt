use Rattle.lq_desk_sub.proofs.HeldLemmas.{undoes}
use Rattle.lq_desk_sub.proofs.laws.putting_back_undoes.Goals as goal

pub returns : goal.returns
returns c = undoes
