-- The messages of a subscription.
use Rattle.std.specs.Prelude.{ℕ, List, Bool}
use Rattle.lq_update.specs.declared.message.Message.{Message}

-- the messages held, those made ready for a change and the number of changes before it, and whether
-- there is room to put a message back
pub record Queued : Type 0 where
  pub held : List Message
  pub ready : List Message
  pub before : ℕ
  pub lent : Bool
