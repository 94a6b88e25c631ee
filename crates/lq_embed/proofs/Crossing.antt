-- An embedded session may go to another thread, where what it is made of may.
use denote.Param.Send.{IsSend, sendable}
use denote.Param.SendFields.{declared_send}
use Rattle.std.proofs.Crossing.{crosses}
use Rattle.std.specs.contracts.alloc.Global as global
use Rattle.std.specs.contracts.impls.GlobalAllocator.TheImpl.{ghosts as ghosts_of_global}
use Rattle.std.specs.contracts.vec.IntoIter as into_iter
use Rattle.std.specs.contracts.vec.Vec as vec
use Rattle.lq_value.specs.contracts.entry.Entry as entry
use Rattle.lq_value.specs.contracts.value.Value as value
use Rattle.lq_predicate.specs.contracts.stack.Stack as stack
use Rattle.lq_script_request.specs.contracts.scratch.RecentAttrs as attrs
use Rattle.lq_script_desk.specs.contracts.session.Session as session
use Rattle.lq_embed.specs.contracts.embedded.Embedded as embedded

pub embedded_send : IsSend session.the_row → IsSend attrs.the_row
    → IsSend (into_iter.the_row entry.the_row global.the_row ghosts_of_global)
    → IsSend stack.the_row → IsSend (vec.the_row value.the_row global.the_row ghosts_of_global)
    → IsSend embedded.the_row
embedded_send s x e t b =
    declared_send embedded.the_type (
      search (sendable, crosses) depth 20,
      (
        s,
        (
          x,
          (e, (search (sendable, crosses) depth 20, (t, (b, (search sendable depth 12, tt))))),
        ),
      ),
    )
