-- No seat was given out before.
use Rattle.std.proofs.Common.{arith}
use Rattle.lq_board.proofs.SplitLemmas.{leading}
use Rattle.lq_board.proofs.TokenLemmas.{keeper_table}
use Rattle.lq_board.proofs.board.Board.lead.Goals as goal

pub split_seat-token-requires : goal.split_seat-token-requires
split_seat-token-requires g c = (
  keeper_table c.keeper.view_is c.requires.board c.self.view_is,
  omega (arith, c.self.invariant.0),
  leading _ _ c.keeper.invariant.0 (rw (← c.keeper.view_is) at c.requires.first),
)
