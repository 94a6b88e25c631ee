-- A reader whose seat is its own.
use Rattle.std.specs.Prelude.{◌≡◌, ◌<◌, ℕ, Bool, IsSomeAnd}
use Rattle.lq_board.specs.Token.{SeatToken}
use Rattle.lq_server_slots.specs.declared.identity.Identity.{Identity}
use Rattle.lq_server_slots.specs.Reading.{ReadingHold}
use Rattle.lq_server_slots.specs.Opening.{IdentityFits, asks_after}
use Rattle.lq_server_slots.specs.Hold.{ReaderHold}

-- its seat belongs to its slot and its port, and has asked as often as the reader
pub record IsOwn (r : ReaderHold) : Type 0 where
  pub low : 0 < r.slot
  pub high : r.slot < 65
  pub slot : r.seat.slot ≡ r.slot
  pub name : IsSomeAnd r.seat.name (λ t.
      IdentityFits t r.reading.port × (r.seat.asks ≡ asks_after t.asks r.hang_up_asked)
      × (t.asks < 1000000000000))

-- a reader whose own seat was lent, and is now this one, still has its own
abbrev pub StaysOwn : SeatToken Identity → SeatToken Identity → Type 0
StaysOwn old new =
    (reading : ReadingHold) (slot : ℕ) (asked : Bool)
    → IsOwn (record { reading = reading; seat = old; slot = slot; hang_up_asked = asked })
    → IsOwn (record { reading = reading; seat = new; slot = slot; hang_up_asked = asked })
