-- It owns nothing, so it may go to any thread.
use denote.RattleType.{RattleType}
use denote.Param.Send.{IsSend}
use Rattle.lq_server_slots.specs.contracts.ghost_copy.GhostCopy.{the_row}

pub send : (T : RattleType) → IsSend (the_row T)
send T =
    record { owned = λ d vs. ((λ vss. (tt, ((λ uss. (tt, tt)), tt))), tt); leaving = λ k f vs. tt }
