-- A change makes at most three messages more.
use Rattle.std.proofs.Common.{◌+◌, ◌≤◌, ℕ, Bool, true, false, List, length, arith}
use Rattle.lq_update.specs.declared.message.Message.{Message}
use Rattle.lq_desk_sub.specs.Held.{Held, after_messages, after_messages_by, overruns}

-- by whether they are too many
sent_by : (h : Held) (more : List Message) (before : ℕ) (over : Bool) → length more ≤ 3
    → (after_messages_by h more before over).sent ≤ h.sent + 3
sent_by h more before true few = omega arith
sent_by h more before false few = omega (arith, few)

-- as many messages as before, and three more at most
pub sent_after : (h : Held) (more : List Message) (before : ℕ) → length more ≤ 3
    → (after_messages h more before).sent ≤ h.sent + 3
sent_after h more before few = sent_by h more before (overruns h more) few
