-- The numbers of a volume fit a word, and so do those after the next change.
use Rattle.std.proofs.Common.{◌+◌, arith}
use mir.Syntax.{w64}
use mir.Val.{Fits}
use Rattle.lq_volume.specs.State.{State, IsNumbered}

-- the number of the next change
pub number-fits : (s : State) → IsNumbered s → Fits w64 (s.number + 1)
number-fits s n = let a = n.number in let b = n.limit in omega arith

-- the node after the next one
pub next-fits : (s : State) → IsNumbered s → Fits w64 (s.next + 1)
next-fits s n = let a = n.number in let b = n.limit in let f = n.few in omega arith
