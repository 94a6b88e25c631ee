use Rattle.std.proofs.Common.{length}
use Rattle.lq_embed.proofs.ParameterLemmas.{HasSoFar}
use Rattle.lq_embed.proofs.parameters.read_parameters.Given as goal

abbrev pub invariant-loop-placed : goal.invariant-loop-placed
invariant-loop-placed l =
    HasSoFar l.formula l.parameters.items l.before l.cursor.offset l.cursor.rest.now

abbrev pub decreases-loop-placed : goal.decreases-loop-placed
decreases-loop-placed l = length l.cursor.rest.now
