-- Each of these facts is one of the call below, so the search for it is kept short.
use Rattle.std.proofs.Common.{rules}
use Rattle.lq_server.proofs.reader.Reader.read.Goals as goal

pub returns-clause-received : goal.returns-clause-received
returns-clause-received g c = search rules steps 2000000

pub returns-clause-gives : goal.returns-clause-gives
returns-clause-gives g c = search rules steps 2000000

pub returns-clause-over : goal.returns-clause-over
returns-clause-over g c = search rules steps 2000000
