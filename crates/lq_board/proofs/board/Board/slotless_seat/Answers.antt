-- A new seat can be split off, since no seat leads.
use Rattle.std.proofs.Common.{◌≡◌, true, ⊎_elim, ap, ◌∙◌, arith}
use Rattle.lq_board.specs.Token.{BoardName, KeeperToken}
use Rattle.lq_board.specs.View.{keeping_of}
use Rattle.lq_board.proofs.SplitLemmas.{copies}
use Rattle.lq_board.proofs.TokenLemmas.{keeper_table}
use Rattle.lq_board.proofs.board.Board.slotless_seat.Goals as goal

pub split_seat-requires : goal.split_seat-requires
split_seat-requires g c =
    let free : (keeping_of c.keeper.inside.token.me.0).register.free ≡ true =
    ⊎_elim
    (λ says.
    ap (λ (k : KeeperToken g.row.M.Denot). k.board.free) c.keeper.view_is
    ∙ ap (λ (b : BoardName). b.free) c.requires.board ∙ says)
    (λ says. ap (λ (k : KeeperToken g.row.M.Denot). k.register.free) c.keeper.view_is ∙ says)
    c.requires.uncounted in (
      keeper_table c.keeper.view_is c.requires.board c.self.view_is,
      omega (arith, c.self.invariant.0),
      copies _ _ c.keeper.invariant.0 free,
    )
