-- A server may be shared by threads, where what its lock and its board are made of may cross.
-- The check finds none of these steps, since a predicate's tree holds itself.
use denote.RattleType.{RattleType}
use denote.Param.Send.{IsSend, IsSync, sendable, view_send, view_sync}
use denote.Param.SendFields.{declared_send, declared_sync}
use Rattle.std.proofs.Crossing.{crosses}
use Rattle.std.specs.contracts.sync.Mutex as mutex
use Rattle.std.specs.contracts.marker.PhantomData as phantom
use Rattle.std.below.core.specs.contracts.marker.ClosureMark as mark
use Rattle.lq_volume.specs.contracts.volume.Volume as volume
use Rattle.lq_board.specs.contracts.board.Board as board
use Rattle.lq_board.specs.contracts.tokens.Keeper as keeper
use Rattle.lq_desk_sub.specs.contracts.slot_table.SlotTable as table
use Rattle.lq_desk_sub.specs.contracts.sub.Sub as sub
use Rattle.lq_port.specs.contracts.ends.PortIn as port_in
use Rattle.lq_server_slots.specs.contracts.delivery.Delivery as delivery
use Rattle.lq_server_slots.specs.contracts.delivery.Opening as opening_at
use Rattle.lq_server_slots.specs.contracts.delivery.DeliveryFollows.TheImpl.{ghosts}
use Rattle.lq_server_slots.specs.contracts.identity.Identity as identity
use Rattle.lq_server_slots.specs.contracts.subscription.Subscription as slot
use Rattle.lq_server_slots.specs.contracts.slots.ServerSlots as slots
use Rattle.lq_server_slots.specs.declared.server_base.Named.{Ghosts}
use Rattle.lq_server_slots.specs.contracts.server_state.ServerState as locked
use Rattle.lq_server_slots.specs.contracts.server_state.ServerState.TheInside as in_locked
use Rattle.lq_server.specs.contracts.server.Server as server
use Rattle.lq_server.specs.contracts.server.Server.TheInside as in_server

-- a subscription and the end of its port
pub slot_send : IsSend sub.the_row
    → IsSend (port_in.the_row delivery.the_row opening_at.the_row ghosts)
    → IsSend slot.the_row
slot_send s p =
    declared_send slot.the_type (s, (p, search (sendable, crosses) depth 20))

-- the slots and the keeper of the board
slots_send : IsSend (table.the_row slot.the_row) → IsSend (keeper.the_row identity.the_row)
    → IsSend slots.the_row
slots_send t k = declared_send slots.the_type (k, (t, search (sendable, crosses) depth 20))

-- a marker without a value
phantom_send : (N : RattleType) → IsSend (phantom.the_row N)
phantom_send N = search (sendable, crosses) depth 20

-- what the lock has
locked_send : (N : RattleType) (g : Ghosts N.Denot) → IsSend slots.the_row → IsSend volume.the_row
    → IsSend (locked.the_row N g)
locked_send N g s v =
    view_send (in_locked.the_row N g) _ _ _ _
    (declared_send (in_locked.the_type N g)
    (search (sendable, crosses, s, v, phantom_send N) depth 40))

-- the lock, whatever its name
mutex_sync : (N : RattleType) (g : Ghosts N.Denot) → IsSend (locked.the_row N g)
    → IsSync (mutex.the_row (locked.the_row N g))
mutex_sync N g l = search (sendable, crosses, l) depth 20

-- a server is a lock and a board
pub server_sync : (N : RattleType) (g : Ghosts N.Denot) → IsSend (table.the_row slot.the_row)
    → IsSend (keeper.the_row identity.the_row)
    → IsSend volume.the_row
    → IsSync (board.the_row identity.the_row)
    → IsSync (server.the_row N g)
server_sync N g t k v b =
    let l : IsSend (locked.the_row N g) = locked_send N g (slots_send t k) v in
    view_sync (in_server.the_row N g) _ _ _ _
    (declared_sync (in_server.the_type N g) (mutex_sync N g l, (b, tt)))

-- the mark of a closure over type parameters
pub mark_send : (M : RattleType) → IsSend (mark.the_row M)
mark_send M = search (sendable, crosses) depth 20

-- the same, of a closure that is shared
pub mark_sync : (M : RattleType) → IsSync (mark.the_row M)
mark_sync M = search (sendable, crosses) depth 20
