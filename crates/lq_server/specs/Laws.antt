-- What follows of the answers of a reader's calls.
use Rattle.std.specs.Prelude.{◌≡◌, ℕ, false, Ok, Err}
use Rattle.lq_value.specs.declared.refusal.Refusal.{Refusal}
use Rattle.lq_volume.specs.Book.{Book}
use Rattle.lq_desk_sub.specs.declared.read.Read.{Read}
use Rattle.lq_server_slots.specs.declared.identity.Identity.{Identity}
use Rattle.lq_server_slots.specs.declared.identity.FirstClose.TheVariants.{Never}
use Rattle.lq_server_slots.specs.Opening.{name_or}
use Rattle.lq_server_slots.specs.Reading.{ReadingHold}
use Rattle.lq_server_slots.specs.Standing.{IsOverrun, seen_of}
use Rattle.lq_server.specs.Closed.{IsCloseAnswer}
use Rattle.lq_server.specs.Headline.{GoesOn, IsAnswered}
use Rattle.lq_server_slots.specs.Hold.{ReaderHold}
use Rattle.lq_server.specs.Syncing.{IsWaitingRead}

-- An answer of `read_waiting` is one of a read, in the words of `AnswersAreTold`: the reader goes
-- on to some reading, and from there the read answers.
abbrev pub WaitingReadsAnswer : Type 0
WaitingReadsAnswer =
    (old new : ReaderHold) (a : Read) → IsWaitingRead old new (Ok a)
    → (mid : ReadingHold) × GoesOn old.reading mid × IsAnswered mid new.reading a

-- the subscription with this name has overrun over this book
pub record HasOverrun (t : Identity) (book : Book) : Type 0 where
  pub change : ℕ
  pub overrun : IsOverrun t.query t.flags t.opened t.places t.backlog (seen_of t.last_report) book
      change

-- A first close is refused only where the reader asked for the end, or where its subscription has
-- overrun.
abbrev pub FirstClosesAreRefusedLate : Type 0
FirstClosesAreRefusedLate =
    (old new : ReaderHold) (e : Refusal) → IsCloseAnswer old new (Err e)
    → (name_or old.seat.name).first_close ≡ Never → old.hang_up_asked ≡ false
    → HasOverrun (name_or old.seat.name) new.seat.book
