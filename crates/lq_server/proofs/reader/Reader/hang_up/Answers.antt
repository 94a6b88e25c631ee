-- The seat has asked once more. The search for it is kept short.
use Rattle.std.proofs.Common.{rules}
use Rattle.lq_server.proofs.reader.Reader.hang_up.Goals as goal

pub returns-then-not-self-clause-own : goal.returns-then-not-self-clause-own
returns-then-not-self-clause-own g c = search rules steps 2000000
