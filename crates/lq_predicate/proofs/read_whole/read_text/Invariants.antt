use Rattle.std.proofs.Common.{length}
use Rattle.lq_predicate_formula.specs.Machine.{MachineState}
use Rattle.lq_predicate.specs.Building.{IsBuilt}
use Rattle.lq_predicate.proofs.SoFarLemmas.{SoFar}
use Rattle.lq_predicate.proofs.read_whole.read_text.Given as goal

-- some state is built that the machine has come to
abbrev pub invariant-loop-placed : goal.invariant-loop-placed
invariant-loop-placed g l =
    (s : MachineState) × IsBuilt g.B.Builder.named g.B.Builder.parts l.frames s l.expected
    × SoFar l.text l.cursor.offset l.cursor.rest.now s l.words

abbrev pub decreases-loop-placed : goal.decreases-loop-placed
decreases-loop-placed g l = length l.cursor.rest.now
