-- A reader lends its seat.
use Rattle.std.specs.Borrow.{Lends, MutBor, Fml}
use Rattle.lq_board.specs.Token.{SeatToken}
use Rattle.lq_board.specs.contracts.tokens.Seat as seat
use Rattle.lq_server_slots.specs.declared.identity.Identity.{Identity}
use Rattle.lq_server_slots.specs.contracts.identity.Identity as identity
use Rattle.lq_server_slots.specs.Hold.{ReaderHold}
use Rattle.lq_server.specs.contracts.reader.Reader as reader

-- the reader with another seat
abbrev pub reader_with_seat : ReaderHold → SeatToken Identity → ReaderHold
reader_with_seat r s =
    record { reading = r.reading; seat = s; slot = r.slot; hang_up_asked = r.hang_up_asked }

-- when the loan ends, the reader has the last seat that s has
abbrev pub LendsSeat : MutBor ReaderHold → MutBor (SeatToken Identity) → Fml
LendsSeat r s = Lends reader.the_row (seat.the_row identity.the_row) r s (reader_with_seat r.now)
