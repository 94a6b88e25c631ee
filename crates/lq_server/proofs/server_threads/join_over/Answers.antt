-- The first work may go to another thread.
use mathlib.Core.List.{[], ◌∷◌}
use denote.Struct.Field.{row_field, shr_ref_field}
use denote.Struct.Tuple.{Tuple, type_at}
use denote.Exit.{no}
use denote.Param.{param}
use denote.Param.Send.{param_send, arg_send, shr_send}
use denote.Param.SendFields.{declared_send, as_row_send}
use Rattle.std.below.core.specs.contracts.marker.ClosureMark as mark
use Rattle.lq_server.specs.contracts.server.Server as server
use Rattle.lq_server.proofs.Crossing.{mark_send}
use Rattle.lq_server.proofs.server_threads.join_over.Goals as goal

-- its closure takes the work, the runtime, the server, and the mark of what it answers
pub join-requires-send-F : goal.join-requires-send-F
join-requires-send-F g c κs within =
    let answer = Tuple (param 4 g.row.F-Given ∷ []) in
    param_send 1 _
    (arg_send _ no _
    (declared_send
    (type_at _ (
    param 2 g.row.F
    ∷ (shr_ref_field _ (param 1 g.row.R) tt).row
    ∷ (shr_ref_field _ (server.the_row (param 0 g.row.N) g.N.Named) tt).row
    ∷ mark.the_row answer
    ∷ []
    )) (
      as_row_send (row_field (param 2 g.row.F)) c.type_bounds.send-F,
      (
        shr_send _ _ _ c.type_bounds.sync-R,
        (shr_send _ _ _ c.servers_may_be_shared.ensures, (mark_send answer, tt)),
      ),
    )))
