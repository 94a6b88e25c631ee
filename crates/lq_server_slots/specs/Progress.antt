-- What the lock shows of a subscription.
use Rattle.std.specs.Prelude.{◌≡◌, ◌<◌, ◌≤◌, length, Some, IsSome}
use mathlib.Core.List.{IsPrefix}
use Rattle.lq_volume.specs.Book.{Extends}
use Rattle.lq_board.specs.Token.{SeatToken}
use Rattle.lq_port.specs.End.{IsSamePort, all_put}
use Rattle.lq_port.specs.Port.{IsLegal}
use Rattle.lq_server_slots.specs.declared.identity.Identity.{Identity}
use Rattle.lq_server_slots.specs.declared.subscription.Subscription.{Subscription}
use Rattle.lq_server_slots.specs.Rule.{MayFollow}
use Rattle.lq_server_slots.specs.Marking.{hung_mark}
use Rattle.lq_server_slots.specs.Identity.{identity_of}
use Rattle.lq_server_slots.specs.Reading.{ReadingHold}
use Rattle.lq_server_slots.specs.Standing.{IsConsistentAt, IsDrained, report_of}
use Rattle.lq_server_slots.specs.declared.sync.Progress.{Progress}

-- What a sync shows of a subscription; s is the subscription under the lock, once its port is
-- filled and before its reader is told. The seat's name then says what it was told.
pub record ShowsProgress (s : Subscription) (seat0 seat1 : SeatToken Identity) (d e : ReadingHold)
    (x : Progress) : Type 0 where
  pub stands : IsConsistentAt s seat1.book
  pub drained : IsDrained s (length e.port.ahead)
  pub port : IsSamePort d.port e.port
  pub floor : e.port.floor ≡ s.input.floor
  pub taken : e.port.taken ≡ d.port.taken
  pub all : all_put e.port ≡ all_put s.input
  pub known : IsPrefix d.port.ahead e.port.ahead
  pub legal : IsLegal MayFollow e.port.floor (all_put e.port)
  pub hand : e.hand ≡ d.hand
  pub result : e.result ≡ d.result
  pub identity : seat0.name ≡ Some (identity_of s)
  pub name : seat1.name
      ≡ Some (record (identity_of s) {
        last_report = report_of x.change (length e.port.taken) s.sub.held.mark;
      })
  pub seat : seat1 ≡ record seat0 { book = seat1.book; name = seat1.name }
  pub later : Extends seat1.book seat0.book
  pub number : x.change ≡ length seat1.book.changes
  pub waiting : x.waiting ≡ length e.port.ahead
  pub within : length e.port.ahead ≤ s.places
  pub held : x.held ≡ length s.sub.held.messages
  pub mark : x.mark ≡ s.sub.held.mark
  pub out : x.out ≡ s.sub.held.mark_out
  pub hung : hung_mark s.sub.held.mark → s.asks < seat1.asks
  pub ended : s.asks < seat1.asks → IsSome s.sub.held.mark
