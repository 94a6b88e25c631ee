use Rattle.std.proofs.Common.{◌≡◌, take}
use Rattle.lq_model.specs.Followed.{HasMade}
use Rattle.lq_model.proofs.model.apply_all.Given as goal

abbrev pub invariant-loop-change : goal.invariant-loop-change
invariant-loop-change g l =
    (l.seat.board ≡ g.N.Named.board) × (l.seat.slot ≡ 0)
    × (l.seat.book.start ≡ l.fn.seat.book.start)
    × HasMade l.fn.seat l.seat (take l.change-index l.changes)
