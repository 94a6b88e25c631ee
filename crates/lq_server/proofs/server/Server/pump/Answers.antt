-- Each of these facts is one of the call below, so the search for it is kept short.
use Rattle.std.proofs.Common.{rules}
use Rattle.lq_server.proofs.server.Server.pump.Goals as goal

pub returns : goal.returns
returns g c = search rules steps 2000000
