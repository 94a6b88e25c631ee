use Rattle.lq_server_slots.proofs.UpdateLemmas.{extends_trans}
use Rattle.lq_server_slots.proofs.laws.books_extend_on.Goals as goal

pub returns : goal.returns
returns c = extends_trans
