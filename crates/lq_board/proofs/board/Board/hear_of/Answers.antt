-- Two seats can be joined, the first hear of the second, and be parted.
use Rattle.std.proofs.Common.{◌∙◌, sym, arith}
use Rattle.lq_board.specs.View.{second_of}
use Rattle.lq_board.proofs.PairLemmas.{pair_may, hears_of, unpairs}
use Rattle.lq_board.proofs.TokenLemmas.{lent}
use Rattle.lq_board.proofs.ViewLemmas.{after}
use Rattle.lq_board.proofs.board.Board.hear_of.Goals as goal

pub join_seat-requires : goal.join_seat-requires
join_seat-requires g c =
    let one =
    lent (sym c.take.ensures.value ∙ c.unwrap-first.ensures) c.one.invariant.0 c.one.view_is
    c.requires.board.0 c.self.view_is in
    let two =
    lent (sym c.take-2.ensures.value ∙ c.unwrap-second.ensures) c.two.invariant.0 c.two.view_is
    c.requires.board.1 c.self.view_is in
    pair_may _ _ one.0 two.0 c.self.invariant.0 one.1 two.1

pub load-requires : goal.load-requires
load-requires g c =
    let one =
    lent (sym c.take.ensures.value ∙ c.unwrap-first.ensures) c.one.invariant.0 c.one.view_is
    c.requires.board.0 c.self.view_is in (
      c.join_seat.ensures.0 ∙ one.0,
      omega (arith, c.self.invariant.0),
      hears_of _ _ _ _ (after one.1 c.join_seat.ensures.2),
    )

pub split_seat-requires : goal.split_seat-requires
split_seat-requires g c =
    let one =
    lent (sym c.take.ensures.value ∙ c.unwrap-first.ensures) c.one.invariant.0 c.one.view_is
    c.requires.board.0 c.self.view_is in (
      c.load.ensures.0 ∙ c.join_seat.ensures.0 ∙ one.0,
      omega (arith, c.self.invariant.0),
      unpairs _ _ _ (λ v. (second_of v).moments)
          c.load.ensures.2.0,
    )
