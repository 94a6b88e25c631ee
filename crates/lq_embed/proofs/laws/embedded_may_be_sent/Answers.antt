-- An embedded session may go to another thread: what its parts are made of may, as the calls say.
use denote.Exit.{yes}
use Rattle.lq_embed.proofs.Crossing.{embedded_send}
use Rattle.lq_embed.proofs.laws.embedded_may_be_sent.Goals as goal

pub returns : goal.returns
returns c =
    embedded_send c.sessions_may_be_sent.ensures
    record { owned = c.sends.ensures.owned; leaving = λ _. c.sends.ensures.leaving yes }
    record { owned = c.sends-2.ensures.owned; leaving = λ _. c.sends-2.ensures.leaving yes }
    record { owned = c.sends-3.ensures.owned; leaving = λ _. c.sends-3.ensures.leaving yes }
    record { owned = c.sends-4.ensures.owned; leaving = λ _. c.sends-4.ensures.leaving yes }
