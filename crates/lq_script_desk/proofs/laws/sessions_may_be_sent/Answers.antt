-- A session may go to another thread: what its parts are made of may, as the calls say.
use denote.Exit.{yes}
use Rattle.lq_script_desk.proofs.Crossing.{session_send}
use Rattle.lq_script_desk.proofs.laws.sessions_may_be_sent.Goals as goal

pub returns : goal.returns
returns c =
    session_send c.desks_may_be_sent.ensures
    record { owned = c.sends.ensures.owned; leaving = λ _. c.sends.ensures.leaving yes }
    record { owned = c.sends-2.ensures.owned; leaving = λ _. c.sends-2.ensures.leaving yes }
