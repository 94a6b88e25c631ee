-- What is read of one slot may go to a thread, with its server and its gate.
use denote.RattleType.{RattleType}
use denote.Ref.{NamedLft}
use denote.Param.Send.{IsSend, IsSync, sendable, shr_send}
use denote.Param.SendFields.{declared_send}
use Rattle.std.proofs.Crossing.{Vec-send}
use Rattle.lq_desk_sub.specs.contracts.read.Read as read
use Rattle.lq_server_slots.specs.declared.server_base.Named.{Ghosts}
use Rattle.lq_server.specs.contracts.own_reader.OwnReader as own_reader
use Rattle.lq_server.specs.contracts.server.Server as server
use Rattle.lq_script.specs.contracts.batch.ReadTask as read_task

-- it is `Send`, where the server and the gate are `Sync`, and a reader and an answer are `Send`
pub read_task_send : (ℓ : NamedLft) (N G : RattleType) (g : Ghosts N.Denot)
    → IsSync (server.the_row N g)
    → IsSync G
    → IsSend (own_reader.the_row N g)
    → IsSend read.the_row
    → IsSend (read_task.the_row ℓ N G g)
read_task_send ℓ N G g s gate reader r =
    declared_send (read_task.the_type ℓ N G g) (
      shr_send _ _ _ s,
      (
        shr_send _ _ _ gate,
        (
          reader,
          (
            search sendable,
            (search sendable, (Vec-send read.the_row r, (search sendable, tt))),
          ),
        ),
      ),
    )
