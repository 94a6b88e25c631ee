-- Threads may share a server: what its parts are made of may cross, as the calls say.
use denote.Exit.{no, yes}
use denote.Param.{param}
use denote.Param.Send.{arg_send, param_send}
use Rattle.lq_server.proofs.Crossing.{server_sync, slot_send}
use Rattle.lq_server.proofs.laws.servers_may_be_shared.Goals as goal

pub sends-requires-3-send-T : goal.sends-requires-3-send-T
sends-requires-3-send-T g c κs =
    param_send 0 _
    (arg_send _ no _
    (slot_send
    record { owned = c.sends.ensures.owned; leaving = λ _. c.sends.ensures.leaving yes }
    record { owned = c.sends-2.ensures.owned; leaving = λ _. c.sends-2.ensures.leaving yes }))

pub returns : goal.returns
returns g c =
    server_sync (param 0 g.row.N) g.N.Named
    record { owned = c.sends-4.ensures.owned; leaving = λ _. c.sends-4.ensures.leaving yes }
    record { owned = c.sends-5.ensures.owned; leaving = λ _. c.sends-5.ensures.leaving yes }
    record { owned = c.sends-6.ensures.owned; leaving = λ _. c.sends-6.ensures.leaving yes }
    record { shared = c.shares.ensures.shared }
