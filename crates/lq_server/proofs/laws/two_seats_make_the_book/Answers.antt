use Rattle.lq_server.proofs.CallLemmas.{two_make_the_book}
use Rattle.lq_server.proofs.laws.two_seats_make_the_book.Goals as goal

pub returns : goal.returns
returns c = two_make_the_book
