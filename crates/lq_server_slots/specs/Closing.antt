-- What a close under the lock answers, and what it makes of its seat.
use Rattle.std.specs.Prelude.{◌≡◌, ◌<◌, ℕ, length, Option, Some, None, IfSome, is_some}
use Rattle.lq_volume.specs.Book.{Book, Extends}
use Rattle.lq_board.specs.Token.{SeatToken}
use Rattle.lq_server_slots.specs.declared.identity.Identity.{Identity}
use Rattle.lq_server_slots.specs.declared.identity.FirstClose.TheVariants.{Never}
use Rattle.lq_server_slots.specs.declared.subscription.Subscription.{Subscription}
use Rattle.lq_server_slots.specs.declared.sync.Progress.{Progress}
use Rattle.lq_server_slots.specs.Marking.{after_close}
use Rattle.lq_server_slots.specs.Progress.{ShowsProgress}
use Rattle.lq_server_slots.specs.Reading.{ReadingHold}
use Rattle.lq_server_slots.specs.Opening.{name_or}

-- The seat, s before and t after, closed its subscription over this book, unless that had ended.
-- Only its first close may answer the number of changes, and not where the seat had asked for the
-- end. The seat knows the book, and its name what the first close answered.
pub record IsClosed (book : Book) (s t : SeatToken Identity) (result : Option ℕ) : Type 0 where
  pub number : IfSome result (λ n. n ≡ length book.changes)
  pub closes : IfSome result (λ _. (name_or s.name).first_close ≡ Never)
  pub late : (name_or s.name).asks < s.asks → result ≡ None
  pub seat : t ≡ record s { book = book; name = t.name }
  pub later : Extends book s.book
  pub name : t.name
      ≡ Some (record (name_or s.name) {
        first_close =
            after_close (name_or s.name).first_close (is_some result) (length book.changes);
      })

-- A close under the lock, and then a sync in the same hold. The seat, s before and t after, was
-- `mid` in between. Its reader's end of the port was d, and is e.
pub record IsClosing (s t : SeatToken Identity) (d e : ReadingHold) (result : Option ℕ)
    : Type 0 where
  pub mid : SeatToken Identity
  pub closed : IsClosed mid.book s mid result
  pub same : t.book ≡ mid.book
  pub subscription : Subscription
  pub progress : Progress
  pub shown : ShowsProgress subscription mid t d e progress
