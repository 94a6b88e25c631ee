-- The seats that a server gives out: the one that a counted server begins with, and each other.
use Rattle.std.specs.Prelude.{◌≡◌, ◌+◌, ◌<◌, ◌≤◌, [], Result, IfOk, IfErr, OnOk, OnErr}
use Rattle.lq_value.specs.declared.refusal.Refusal.{Refusal}
use Rattle.lq_value.specs.declared.refusal.Refusal.TheVariants.{NoSeat}
use Rattle.lq_volume.specs.State.{State}
use Rattle.lq_board.specs.Author.{leader}
use Rattle.lq_board.specs.Token.{BoardName, SeatToken, slotless_token}
use Rattle.lq_server_slots.specs.declared.identity.Identity.{Identity}
use Rattle.lq_server_slots.specs.Hold.{LockHold}
use Rattle.lq_server_slots.specs.Slots.{SameButKnown}

-- the leading seat of a new server over this volume: no seat is enlisted, and it has gathered no
-- change
abbrev pub leading_seat : BoardName → State → SeatToken Identity
leading_seat board start =
    slotless_token board (record { start = start; changes = [] }) leader

-- A seat of no slot was asked for under the lock of this board, which began with this volume. It
-- knows the book, made no change, and may make changes where each seat may. No seat was made for
-- it. Refused just where 16 are out; else one more is out.
pub record GivesSeat (board : BoardName) (began : State) (old new : LockHold)
    (result : Result (SeatToken Identity) Refusal) : Type 0 where
  pub same : SameButKnown old.slots new.slots
  pub seat : IfOk result (λ seat.
      (seat.board ≡ board) × (seat.slot ≡ 0) × (seat.book ≡ old.slots.keeper.book))
  pub author : IfOk result (λ seat. seat.author.changes ≡ [])
  pub signs : IfOk result (λ seat. seat.author.signs ≡ board.free)
  pub counts : IfOk result (λ seat. (seat.seats ≡ 0) × (seat.openings ≡ 0))
  pub start : IfOk result (λ seat. seat.book.start ≡ began)
  pub refused : IfErr result (λ e. e ≡ NoSeat)
  pub out : OnOk result ((old.seats < 16) × (new.seats ≡ old.seats + 1))
  pub many : OnErr result ((16 ≤ old.seats) × (new.seats ≡ old.seats))
