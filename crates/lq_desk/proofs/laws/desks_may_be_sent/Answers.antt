-- A desk may go to another thread: what its parts are made of may, as the calls say.
use denote.Exit.{yes}
use Rattle.lq_desk.proofs.Crossing.{desk_send}
use Rattle.lq_desk.proofs.laws.desks_may_be_sent.Goals as goal

pub returns : goal.returns
returns c =
    desk_send
    record { owned = c.sends.ensures.owned; leaving = λ _. c.sends.ensures.leaving yes }
    record { owned = c.sends-2.ensures.owned; leaving = λ _. c.sends-2.ensures.leaving yes }
