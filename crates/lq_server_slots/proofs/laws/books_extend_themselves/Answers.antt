use Rattle.lq_server_slots.proofs.UpdateLemmas.{extends_self}
use Rattle.lq_server_slots.proofs.laws.books_extend_themselves.Goals as goal

pub returns : goal.returns
returns c = extends_self
