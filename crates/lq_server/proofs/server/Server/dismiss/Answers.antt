-- Each of these facts is one of the call below, so the search for it is kept short.
use Rattle.std.proofs.Common.{rules}
use Rattle.lq_server.proofs.server.Server.dismiss.Goals as goal

pub returns-clause-merged : goal.returns-clause-merged
returns-clause-merged g c = search rules steps 2000000

pub returns-clause-head : goal.returns-clause-head
returns-clause-head g c = search rules steps 2000000

pub returns-clause-other : goal.returns-clause-other
returns-clause-other g c = search rules steps 2000000
