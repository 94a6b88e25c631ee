use Rattle.lq_server.proofs.LawLemmas.{waiting_answer}
use Rattle.lq_server.proofs.laws.waiting_reads_answer.Goals as goal

pub returns : goal.returns
returns c = waiting_answer
