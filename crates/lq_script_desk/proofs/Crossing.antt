-- A session may go to another thread, where a desk, the rebuilt results and the scratch may.
use denote.Param.Send.{IsSend, sendable}
use denote.Param.SendFields.{declared_send}
use Rattle.std.proofs.Crossing.{crosses}
use Rattle.lq_desk_sub.specs.contracts.slot_table.SlotTable as table
use Rattle.lq_desk.specs.contracts.desk.Desk as desk
use Rattle.lq_script_request.specs.contracts.scratch.Scratch as scratch
use Rattle.lq_update.specs.contracts.indexed_rebuild.IndexedRebuild as rebuild
use Rattle.lq_script_desk.specs.contracts.session.Session as session

-- a session
pub session_send : IsSend desk.the_row → IsSend (table.the_row rebuild.the_row)
    → IsSend scratch.the_row
    → IsSend session.the_row
session_send d t s = declared_send session.the_type (search (sendable, crosses, d, s, t) depth 40)
