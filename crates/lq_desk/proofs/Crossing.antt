-- A desk may go to another thread, where a volume and the table of its slots may. The check finds
-- none of these steps, since a predicate's tree holds itself.
use denote.Param.Send.{IsSend, sendable, view_send}
use denote.Param.SendFields.{declared_send}
use Rattle.std.proofs.Crossing.{crosses}
use Rattle.lq_volume.specs.contracts.volume.Volume as volume
use Rattle.lq_desk_sub.specs.contracts.slot_table.SlotTable as table
use Rattle.lq_desk.specs.contracts.slot.Slot as slot
use Rattle.lq_desk.specs.contracts.desk_slots.Slots as slots
use Rattle.lq_desk.specs.contracts.desk_slots.Slots.TheInside as in_slots
use Rattle.lq_desk.specs.contracts.engine.Engine as engine
use Rattle.lq_desk.specs.contracts.engine.Engine.TheInside as in_engine
use Rattle.lq_desk.specs.contracts.witness.Witness as witness
use Rattle.lq_desk.specs.contracts.desk.Desk as desk
use Rattle.lq_desk.specs.contracts.desk.Desk.TheInside as in_desk

-- the slots
slots_send : IsSend (table.the_row slot.the_row) → IsSend slots.the_row
slots_send t =
    view_send in_slots.the_row _ _ _ _
    (declared_send in_slots.the_type (t, search (sendable, crosses) depth 30))

-- what a desk keeps
engine_send : IsSend volume.the_row → IsSend (table.the_row slot.the_row) → IsSend engine.the_row
engine_send v t =
    view_send in_engine.the_row _ _ _ _
    (declared_send in_engine.the_type (
      v,
      (
        search sendable depth 12,
        (search (sendable, crosses) depth 20, (slots_send t, tt)),
      ),
    ))

-- a witness, which has no bytes
witness_send : IsSend witness.the_row
witness_send = search (sendable, crosses) depth 20

-- a desk
pub desk_send : IsSend volume.the_row → IsSend (table.the_row slot.the_row) → IsSend desk.the_row
desk_send v t =
    view_send in_desk.the_row _ _ _ _
    (declared_send in_desk.the_type
    (search (sendable, crosses) depth 20, (engine_send v t, (witness_send, tt))))
