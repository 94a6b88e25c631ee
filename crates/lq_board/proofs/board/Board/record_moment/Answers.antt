-- A new seat can be split off, joined with the seat, and both be parted with the first's moments.
use Rattle.std.proofs.Common.{◌∙◌, sym, arith, ◌++◌}
use Rattle.lq_board.specs.View.{first_sitting, second_of}
use Rattle.lq_board.proofs.PairLemmas.{pair_may, unpairs}
use Rattle.lq_board.proofs.SplitLemmas.{stays}
use Rattle.lq_board.proofs.TokenLemmas.{keeper_table, lent}
use Rattle.lq_board.proofs.ViewLemmas.{after}
use Rattle.lq_board.proofs.board.Board.record_moment.Goals as goal

pub split_seat-first-requires : goal.split_seat-first-requires
split_seat-first-requires g c = (
  keeper_table c.keeper.view_is c.requires.board.0 c.self.view_is,
  omega (arith, c.self.invariant.0),
  stays _ _ c.keeper.invariant.0,
)

pub join_seat-requires : goal.join_seat-requires
join_seat-requires g c =
    let table = keeper_table c.keeper.view_is c.requires.board.0 c.self.view_is in
    let two =
    lent (sym c.take.ensures.value ∙ c.unwrap-second.ensures) c.seat.invariant.0 c.seat.view_is
    c.requires.board.1 c.self.view_is in
    pair_may _ _ (c.split_seat-first.ensures.3 ∙ table) two.0 c.self.invariant.0
    c.split_seat-first.ensures.4 two.1

pub split_seat-requires : goal.split_seat-requires
split_seat-requires g c =
    let table = keeper_table c.keeper.view_is c.requires.board.0 c.self.view_is in (
      c.join_seat.ensures.0 ∙ c.split_seat-first.ensures.3 ∙ table,
      omega (arith, c.self.invariant.0),
      unpairs _ _ _ (λ v. (second_of v).moments ++ (first_sitting v).moments)
          (after c.split_seat-first.ensures.4 c.join_seat.ensures.2),
    )
