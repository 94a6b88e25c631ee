-- The first pass is cut with the room and the floor that the call names.
use Rattle.lq_port.specs.Port.{putter, taker}
use Rattle.lq_port.proofs.ends.make_at.Given as goal

abbrev pub ghosts-another : goal.ghosts-another
ghosts-another g a = record { left = putter g.named.0 g.named.1; right = taker g.named.0 g.named.1 }
