-- The closure that does each work may be shared by threads.
use mathlib.Core.List.{[], ◌∷◌}
use denote.Struct.Field.{shr_ref_field}
use denote.Struct.Tuple.{Tuple, type_at}
use denote.Exit.{no}
use denote.Param.{param}
use denote.Param.Send.{param_sync, arg_sync, shr_sync}
use denote.Param.SendFields.{declared_sync}
use Rattle.std.below.core.specs.contracts.marker.ClosureMark as mark
use Rattle.lq_server.specs.contracts.server.Server as server
use Rattle.lq_server.proofs.Crossing.{mark_sync}
use Rattle.lq_server.proofs.server_threads.map_over.Goals as goal

-- it takes the runtime, the server, and the mark of what it answers
pub map_vec-requires-sync-F : goal.map_vec-requires-sync-F
map_vec-requires-sync-F g c κs within =
    let answer = Tuple (param 3 g.row.W-Given ∷ []) in
    param_sync 4 _
    (arg_sync _ no _
    (declared_sync
    (type_at _ (
    (shr_ref_field _ (param 1 g.row.R) tt).row
    ∷ (shr_ref_field _ (server.the_row (param 0 g.row.N) g.N.Named) tt).row
    ∷ mark.the_row answer
    ∷ []
    )) (
      shr_sync _ _ _ c.type_bounds.sync-R,
      (shr_sync _ _ _ c.servers_may_be_shared.ensures, (mark_sync answer, tt)),
    )))
