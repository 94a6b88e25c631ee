use Rattle.std.proofs.Common.{◌≡◌, true}
use Rattle.lq_model.specs.Followed.{IsSameReader}
use Rattle.lq_model.proofs.model.read_out.Given as goal

abbrev pub invariant-loop : goal.invariant-loop
invariant-loop g l = IsSameReader l.fn.reader l.reader × (l.reader.seat.board ≡ g.N.Named.board)

abbrev pub invariant-loop-2 : goal.invariant-loop-2
invariant-loop-2 g l =
    (goal.iterator-loop-2 g).can_next l.iterator' × (goal.iterator-loop-2 g).is_finite l.iterator'
    × IsSameReader l.fn.reader l.reader × (l.reader.seat.board ≡ g.N.Named.board)
    × (l.reader.hang_up_asked ≡ true)
