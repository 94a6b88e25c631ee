-- Each of these facts is one of the call below, so the search for it is kept short.
use Rattle.std.proofs.Common.{rules}
use Rattle.lq_server.proofs.server.Server.apply.Goals as goal

pub returns-clause-author : goal.returns-clause-author
returns-clause-author g c = search rules steps 2000000

pub returns-clause-ok : goal.returns-clause-ok
returns-clause-ok g c = search rules steps 2000000
