-- The change that was accepted is the one that the seat made.
use Rattle.std.proofs.Common.{[], ◌∷◌, subst}
use Rattle.std.specs.Prelude.{IfOk, OnErr}
use Rattle.lq_board.specs.Token.{SeatToken}
use Rattle.lq_server_slots.specs.declared.identity.Identity.{Identity}
use Rattle.lq_server.specs.Made.{MakesMore}
use Rattle.lq_server.proofs.MadeLemmas.{made_by, made_err}
use Rattle.lq_server.proofs.own_seat.OwnSeat.apply.Goals as goal

pub returns-clause-made : goal.returns-clause-made
returns-clause-made g c =
    let a = c.apply.ensures in
    subst (λ (s : SeatToken Identity).
    IfOk c.apply.result (λ t. MakesMore s c.apply.new.seat (t ∷ []))) c.self.view_is
    (made_by c.self.inside.seat c.apply.new.seat c.args.change.now c.apply.result a.author a.ok)

pub returns-clause-err : goal.returns-clause-err
returns-clause-err g c =
    let a = c.apply.ensures in
    subst (λ (s : SeatToken Identity). OnErr c.apply.result (MakesMore s c.apply.new.seat []))
    c.self.view_is
    (made_err c.self.inside.seat c.apply.new.seat c.apply.result a.others a.later)
