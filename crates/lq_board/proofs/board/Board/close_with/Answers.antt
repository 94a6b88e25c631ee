-- The last number is the length of the keeper's book.
use Rattle.std.proofs.Common.{length, sym, ap, ◌∙◌, subst}
use Rattle.lq_board.specs.Author.{IsWhole}
use Rattle.lq_board.specs.Token.{KeeperToken}
use Rattle.lq_board.proofs.TokenLemmas.{closes, first_of}
use Rattle.lq_board.proofs.board.Board.close_with.Goals as goal

pub returns-clause-number : goal.returns-clause-number
returns-clause-number g c =
    first_of _ _ c.word-number.ensures
    ∙ closes _ _ _ _ c.keeper.invariant.0 c.close_with-closed.ensures.values.2
    ∙ ap (λ (h : KeeperToken g.row.M.Denot). length h.book.changes)
    (c.keeper.view_is ∙ c.join.ensures.keeper)

pub returns-clause-whole : goal.returns-clause-whole
returns-clause-whole g c =
    subst (IsWhole c.args.seat.author) (sym (returns-clause-number g c)) c.join.ensures.whole
