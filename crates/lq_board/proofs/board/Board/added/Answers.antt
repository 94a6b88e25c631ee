-- The seat can come back, its change be added then, and the seat go out again.
use Rattle.std.proofs.Common.{sym, ◌∙◌, arith}
use Rattle.lq_board.proofs.TokenLemmas.{back_may, same_table, keeper_table}
use Rattle.lq_board.proofs.PlayLemmas.{adds}
use Rattle.lq_board.proofs.SplitLemmas.{is_back, again_recorded_may}
use Rattle.lq_board.proofs.ViewLemmas.{after}
use Rattle.lq_board.proofs.board.Board.added.Goals as goal

pub join_seat-requires : goal.join_seat-requires
join_seat-requires g c =
    back_may _ _ c.keeper.view_is c.requires.board.0 c.self.view_is
    (c.requires.board.1 ∙ sym (same_table c.self.view_is)) c.self.invariant.0
    c.keeper.invariant.0 c.requires.view

pub fetch_add-number-requires : goal.fetch_add-number-requires
fetch_add-number-requires g c = (
  c.join_seat.ensures.0 ∙ keeper_table c.keeper.view_is c.requires.board.0 c.self.view_is,
  omega (arith, c.self.invariant.0),
  adds _ _ _ _ _ (after c.keeper.invariant.0 c.join_seat.ensures.2) c.requires.chosen
      c.accepted_changes_keep_trees.ensures c.changes_are_counted.ensures c.requires.number
      c.requires.signs (rw (← c.keeper.view_is) at c.requires.lawful),
)

pub split_seat-again-requires : goal.split_seat-again-requires
split_seat-again-requires g c = (
  c.fetch_add-number.ensures.0 ∙ c.join_seat.ensures.0
      ∙ keeper_table c.keeper.view_is c.requires.board.0 c.self.view_is,
  omega (arith, c.self.invariant.0),
  again_recorded_may _ _ g.W.Chosen.openings _ c.fetch_add-number.ensures.2.0
      (is_back c.keeper.inside.token.me c.args.token.me c.join_seat.new.seat.me
      c.join_seat.ensures.2 c.keeper.invariant.1 c.requires.number c.requires.slot),
)
