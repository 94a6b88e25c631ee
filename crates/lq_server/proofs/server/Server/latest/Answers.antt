-- Each of these facts is one of the call below, so the search for it is kept short.
use Rattle.std.proofs.Common.{rules}
use Rattle.lq_server.proofs.server.Server.latest.Goals as goal

pub returns-clause-number : goal.returns-clause-number
returns-clause-number g c = search rules steps 2000000

pub returns-clause-whole : goal.returns-clause-whole
returns-clause-whole g c = search rules steps 2000000
