-- The seat can come back, the seat be checked then, and the seat go out again.
use Rattle.std.proofs.Common.{sym, refl, ◌∙◌, arith}
use Rattle.lq_board.proofs.TokenLemmas.{back_may, same_table, keeper_table}
use Rattle.lq_board.proofs.PlayLemmas.{checks}
use Rattle.lq_board.proofs.SplitLemmas.{is_back, again_recorded_may}
use Rattle.lq_board.proofs.ViewLemmas.{after}
use Rattle.lq_board.proofs.board.Board.recorded.Goals as goal

pub join_seat-requires : goal.join_seat-requires
join_seat-requires g c =
    back_may _ _ c.keeper.view_is c.requires.board.0 c.self.view_is
    (c.requires.board.1 ∙ sym (same_table c.self.view_is)) c.self.invariant.0
    c.keeper.invariant.0 c.requires.view

pub load-requires : goal.load-requires
load-requires g c = (
  c.join_seat.ensures.0 ∙ keeper_table c.keeper.view_is c.requires.board.0 c.self.view_is,
  omega (arith, c.self.invariant.0),
  checks _ _ _ (after c.keeper.invariant.0 c.join_seat.ensures.2),
)

pub split_seat-requires : goal.split_seat-requires
split_seat-requires g c = (
  c.load.ensures.0 ∙ c.join_seat.ensures.0
      ∙ keeper_table c.keeper.view_is c.requires.board.0 c.self.view_is,
  omega (arith, c.self.invariant.0),
  again_recorded_may _ _ g.W.Chosen.openings _
      (c.load.ensures.2.0 ∙ c.join_seat.ensures.2)
      (is_back c.keeper.inside.token.me c.args.token.me _ refl c.keeper.invariant.1
      c.requires.number c.requires.slot),
)
