-- Once the leading seat went out again, the new seat can be split off.
use Rattle.std.proofs.Common.{ap, ◌∙◌, arith}
use Rattle.lq_board.specs.Token.{KeeperToken}
use Rattle.lq_board.proofs.SplitLemmas.{stays}
use Rattle.lq_board.proofs.TokenLemmas.{keeper_table}
use Rattle.lq_board.proofs.board.Board.seat_by.Goals as goal

pub split_seat-requires : goal.split_seat-requires
split_seat-requires g c = (
  keeper_table c.keeper.view_is
      (ap (λ (k : KeeperToken g.row.M.Denot). k.board) c.met_for_seat.ensures.again.keeper
      ∙ c.requires.board.0)
      c.self.view_is,
  omega (arith, c.self.invariant.0),
  stays _ _ c.keeper.invariant.0,
)
