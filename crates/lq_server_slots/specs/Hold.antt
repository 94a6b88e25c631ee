-- What a contract sees of a base, of the state under the lock, and of a reader.
use Rattle.std.specs.Prelude.{ℕ, Bool}
use Rattle.lq_volume.specs.State.{State}
use Rattle.lq_board.specs.Token.{BoardName, SeatToken}
use Rattle.lq_server_slots.specs.declared.identity.Identity.{Identity}
use Rattle.lq_server_slots.specs.declared.slots.ServerSlots.{ServerSlots}
use Rattle.lq_server_slots.specs.Reading.{ReadingHold}

-- a base: its board, and its volume, which has no changes yet
pub record BaseHold : Type 0 where
  pub board : BoardName
  pub volume : State

-- the slots under the lock with the keeper, and how many seats are out
pub record LockHold : Type 0 where
  pub slots : ServerSlots
  pub seats : ℕ

-- a reader: what it has read, its seat, its slot, and whether it asked for its end
pub record ReaderHold : Type 0 where
  pub reading : ReadingHold
  pub seat : SeatToken Identity
  pub slot : ℕ
  pub hang_up_asked : Bool
