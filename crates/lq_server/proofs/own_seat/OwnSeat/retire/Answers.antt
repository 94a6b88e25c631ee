-- The last book extends the one that this seat knew.
use Rattle.std.proofs.Common.{◌++◌, ◌∙◌, sym, ap, append_assoc}
use Rattle.lq_board.specs.Token.{SeatToken}
use Rattle.lq_server_slots.specs.declared.identity.Identity.{Identity}
use Rattle.lq_server.proofs.own_seat.OwnSeat.retire.Goals as goal

pub returns-clause-retired : goal.returns-clause-retired
returns-clause-retired g c =
    let by = c.retire.ensures.retired in
    let first = c.meet.ensures.first in
    let met =
    ap (λ (s : SeatToken Identity). s.book) c.dismiss.ensures.head ∙ sym c.meet.ensures.same in
    record {
      book = by.book;
      full = by.full;
      begins = by.begins;
      later = rw (← c.self.view_is)
          (first.0 ++ by.later.0, rw (by.later.1, met, first.1, append_assoc));
      state = by.state;
      number = by.number;
      limit = by.limit;
    }
