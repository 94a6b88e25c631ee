use Rattle.lq_server.proofs.CallLemmas.{make_the_book}
use Rattle.lq_server.proofs.laws.calls_make_the_book.Goals as goal

pub returns : goal.returns
returns c = make_the_book
