-- A reader that was just opened.
use Rattle.std.specs.Prelude.{◌≡◌, ◌≤◌, ◌<◌, ◌-◌, ℕ, false, Option, None, IfOk, IsSome, Result}
use Rattle.lq_value.specs.declared.refusal.Refusal.{Refusal}
use Rattle.lq_value.specs.Refusal.{first_refusal}
use Rattle.lq_predicate.specs.Query.{Query}
use Rattle.lq_volume.specs.State.{State}
use Rattle.lq_volume.specs.Book.{Book}
use Rattle.lq_update.specs.declared.open_options.Flags.{Flags}
use Rattle.lq_board.specs.Token.{BoardName, SeatToken}
use Rattle.lq_server_slots.specs.declared.identity.Identity.{Identity}
use Rattle.lq_server_slots.specs.declared.open.Opened.{Opened}
use Rattle.lq_server_slots.specs.declared.slots.ServerSlots.{ServerSlots}
use Rattle.lq_server_slots.specs.Events.{opening_refusals}
use Rattle.lq_server_slots.specs.Noted.{HasNoted}
use Rattle.lq_server_slots.specs.Opening.{IsOpened, IsOpeningTabled}
use Rattle.lq_server_slots.specs.Slots.{AreConsistent, slot_in}
use Rattle.lq_server_slots.specs.Hold.{ReaderHold}
use Rattle.lq_server_slots.specs.Own.{IsOwn}

-- what an opening gave the reader
abbrev pub opened_of : ReaderHold → Opened
opened_of r = record { reading = r.reading; seat = r.seat; slot = r.slot }

-- its subscription was just opened over this book, and nobody asked for its end
pub record IsNewReader (r : ReaderHold) (board : BoardName) (book : Book) (q : Query)
    (flags : Flags) (port backlog : ℕ) : Type 0 where
  pub own : IsOwn r
  pub hang_up_asked : r.hang_up_asked ≡ false
  pub opened : IsOpened (opened_of r) board book q flags port backlog

-- why the first opening at a server over this volume is refused: no slot is taken
abbrev pub first_opening_refusal : State → ℕ → ℕ → Option Refusal
first_opening_refusal start port backlog =
    first_refusal (opening_refusals false 0 start.limit port backlog)

-- Over these slots an opening by this seat is answered so, whether it is refused or not. They stand
-- over the book that the seat then knows, no more were opened than the limit, and a slot that is
-- given is the lowest that is free. They are those of the keeper whose moment the seat has noted in
-- the call, which is the one that the reader's floor has: so which of them are taken is what that
-- keeper knew, and the openings are those that it had counted.
pub record IsAnsweredOver (under : ServerSlots) (start : State) (old new : SeatToken Identity)
    (port backlog : ℕ) (result : Result ReaderHold Refusal) : Type 0 where
  pub keeps : under.keeper.book ≡ new.book
  pub stands : AreConsistent under new.book
  pub noted : HasNoted old new under
  pub openings : under.openings ≤ start.limit
  pub table : IsOpeningTabled under start.limit port backlog result
  pub free : IfOk result (λ r. slot_in under.subscriptions (r.slot - 1) ≡ None)
  pub lowest : IfOk result (λ r.
      (i : ℕ) → i < r.slot - 1 → IsSome (slot_in under.subscriptions i))
  pub keeper : IfOk result (λ r. r.reading.port.floor.book.value ≡ under.keeper)
