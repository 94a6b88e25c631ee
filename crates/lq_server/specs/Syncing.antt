-- What a sync answers.
use Rattle.std.specs.Prelude.{◌⊎◌, ◌≡◌, ◌≢◌, ℕ, ◌+◌, ◌<◌, ◌≤◌, Bool, true, false, List, [], ◌∷◌, ◌++◌, length, map, Option, Some, None, IsSome, is_some, IfSome, IsSomeAnd, Result, Ok, IfOk, OnErr}
use mathlib.Core.List.{IsPrefix}
use Rattle.lq_value.specs.declared.refusal.Refusal.{Refusal}
use Rattle.lq_value.specs.Refusal.{FailsOnlyForMemory}
use Rattle.lq_volume.specs.Book.{Extends}
use Rattle.lq_board.specs.Book.{IsFullBook}
use Rattle.lq_update.specs.declared.message.Message.{Message}
use Rattle.lq_update.specs.declared.mark.Mark.{Mark}
use Rattle.lq_update.specs.declared.mark.Cause.TheVariants.{Overrun}
use Rattle.lq_update.specs.declared.parcel.Parcel.{Parcel}
use Rattle.lq_update.specs.declared.parcel.Parcel.TheVariants.{Update, Fin}
use Rattle.lq_port.specs.End.{IsSamePort}
use Rattle.lq_server_slots.specs.Updates.{updates}
use Rattle.lq_server_slots.specs.Rule.{query_of, all_updates, IsMark}
use Rattle.lq_server_slots.specs.Marking.{hung_mark}
use Rattle.lq_desk_sub.specs.declared.read.Read.{Read}
use Rattle.lq_desk_sub.specs.declared.read.Read.TheVariants.{Empty, Ended}
use Rattle.lq_server_slots.specs.Reading.{known_book, received, ready, mark_read, is_marked, Gives, Fails}
use Rattle.lq_server_slots.specs.Standing.{upto, FirstCloseFits, IsOverrun, StaysTrue, seen_of, report_of}
use Rattle.lq_server_slots.specs.Opening.{name_or}
use Rattle.lq_server_slots.specs.Own.{IsOwn}
use Rattle.lq_server_slots.specs.Hold.{ReaderHold}
use Rattle.lq_server.specs.declared.server.Synced.{Synced}

-- a mark as a list of parcels
abbrev pub fin_list : Option Mark → List Parcel
fin_list None = []
fin_list (Some k) = Fin k ∷ []

-- the messages that wait are w, and those that are held are h
pub record ListsMessages (r : ReaderHold) (x : Synced) (w h : List Message) : Type 0 where
  pub wait : length w ≡ x.waiting
  pub hold : length h ≡ x.held
  pub all : received r.reading ++ w ++ h
      ≡ updates (query_of r.reading.port.floor) r.reading.port.floor.flags r.seat.book
      r.reading.port.floor.opened (upto x.mark x.change)
  pub rest : List Parcel
  pub front : ready r.reading ≡ map (λ m. Update m) w ++ rest
  pub closes : mark_read r.reading ≡ None → x.held ≡ 0 → x.waiting < r.reading.port.places
      → rest ≡ fin_list x.mark
  -- nothing follows them but the mark
  pub last : (rest ≡ []) ⊎ (rest ≡ fin_list x.mark)
  -- a mark, read or not, comes after all of them, as the rule says
  pub mark : IfSome x.mark
      (IsMark r.reading.port.floor (received r.reading ++ w ++ h) r.seat.book)

-- one where it is true: for a mark, or for a message in hand
abbrev pub bit : Bool → ℕ
bit true = 1
bit false = 0

-- old and new are the reader before and after a sync that answers x
pub record IsSynced (old new : ReaderHold) (x : Synced) : Type 0 where
  pub own : IsOwn new
  pub slot : new.slot ≡ old.slot
  pub hang_up_asked : new.hang_up_asked ≡ old.hang_up_asked
  pub port : IsSamePort old.reading.port new.reading.port
  pub taken : new.reading.port.taken ≡ old.reading.port.taken
  pub hand : new.reading.hand ≡ old.reading.hand
  pub result : new.reading.result ≡ old.reading.result
  pub known_stays : known_book new.reading ≡ known_book old.reading
  pub received_stays : received new.reading ≡ received old.reading
  pub seat : new.seat ≡ record old.seat { book = new.seat.book; name = new.seat.name }
  -- the seat's name says what is told, and what was told before is still so
  pub name : new.seat.name
      ≡ Some (record (name_or old.seat.name) {
        last_report = report_of x.change (length new.reading.port.taken) x.mark;
      })
  pub still : IsSomeAnd old.seat.name (λ t. StaysTrue t.last_report x.mark x.change)
  pub later : Extends new.seat.book old.seat.book
  pub knows : Extends new.seat.book (known_book old.reading)
  pub lawful : IsFullBook new.seat.book
  pub number : x.change ≡ length new.seat.book.changes
  pub w : List Message
  pub h : List Message
  pub lists : ListsMessages new x w h
  -- what was known to wait waits still
  pub ready_stays : IsPrefix (ready old.reading) (ready new.reading)
  -- what waits is within the port but for a message in hand, and what is held within the backlog
  pub within : x.waiting ≤ new.reading.port.places + bit (is_some new.reading.hand)
  pub bounded : IsSomeAnd old.seat.name (λ t. x.held ≤ t.backlog)
  pub full : 0 < x.held → new.reading.port.places ≤ x.waiting
  pub ended : old.hang_up_asked ≡ true → IsSome x.mark
  pub hung : hung_mark x.mark → old.hang_up_asked ≡ true
  pub read : IsSome (mark_read old.reading) → x.mark ≡ mark_read old.reading
  pub first_close : IsSomeAnd old.seat.name (λ t. FirstCloseFits t.first_close x.mark)
  pub overrun : IsSomeAnd old.seat.name (λ t. IfSome x.mark (λ k.
      k.cause ≡ Overrun
      → IsOverrun t.query t.flags t.opened t.places t.backlog (seen_of t.last_report) new.seat.book
      k.change))

-- the mark is in the port where it was put and wasn't read
abbrev pub is_mark_in_port : Bool → Bool → Bool
is_mark_in_port true false = true
is_mark_in_port true true = false
is_mark_in_port false b = false

-- a read after the pump of its slot, or after the mark
abbrev pub IsRead : ReaderHold → ReaderHold → Read → Type 0
IsRead old new r =
    ((new ≡ old) × (r ≡ Ended) × Gives old.reading new.reading Ended)
    ⊎ ((is_marked old.reading ≡ false)
    × ((mid : ReaderHold) × (x : Synced) × IsSynced old mid x × Gives mid.reading new.reading r
    × (new ≡ record mid { reading = new.reading })))

-- a read after the pump of its slot that had no memory
abbrev pub IsUnread : ReaderHold → ReaderHold → Type 0
IsUnread old new =
    (is_marked old.reading ≡ false)
    × ((mid : ReaderHold) × (x : Synced) × IsSynced old mid x × Fails mid.reading new.reading
    × (new ≡ record mid { reading = new.reading }))

-- a read, without waiting, of a reader whose port was filled
pub record IsReadAfter (filled new : ReaderHold) (result : Result Read Refusal) : Type 0 where
  pub refused : FailsOnlyForMemory result
  pub gives : IfOk result (Gives filled.reading new.reading)
  pub fails : OnErr result (Fails filled.reading new.reading)
  pub over : IsSome (mark_read filled.reading) → result ≡ Ok Ended
  pub rest : new ≡ record filled { reading = new.reading }

-- Old and new are the reader before and after a read that fills its port first and may wait.
pub record IsWaitingRead (old new : ReaderHold) (result : Result Read Refusal) : Type 0 where
  pub own : IsOwn new
  pub seat : new.seat ≡ record old.seat { book = new.seat.book; name = new.seat.name }
  pub later : Extends new.seat.book old.seat.book
  pub rest : new ≡ record old { reading = new.reading; seat = new.seat }
  pub port : IsSamePort old.reading.port new.reading.port
  pub received : IsPrefix (received new.reading)
      (all_updates new.reading.port.floor (known_book new.reading))
  pub known : Extends (known_book new.reading) (known_book old.reading)
  pub refused : FailsOnlyForMemory result
  pub gives : IfOk result (IsRead old new)
  pub fails : OnErr result (IsUnread old new)
  pub over : IsSome (mark_read old.reading) → result ≡ Ok Ended
  pub waits : result ≢ Ok Empty
