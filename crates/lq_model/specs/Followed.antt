-- What is left after a query was followed, or after two threads made changes, or why it isn't.
use Rattle.std.specs.Prelude.{◌≡◌, ◌⊎◌, ℕ, ◌+◌, ◌≤◌, List, [], ◌++◌, true, false, length, map, take, slice_get, Some, IsSome, Result, OnOk, IfErr}
use Rattle.lq_value.specs.declared.refusal.Refusal.{Refusal}
use Rattle.lq_value.specs.declared.refusal.Refusal.TheVariants.{NoMemory, Exhausted}
use Rattle.lq_predicate.specs.Query.{Query}
use Rattle.lq_volume.specs.State.{State}
use Rattle.lq_volume.specs.declared.change.Change.{Change}
use Rattle.lq_volume.specs.Change.{refused}
use Rattle.lq_volume.specs.Book.{Book, Extends, state_at, state_of}
use Rattle.lq_volume.specs.Result.{result_of}
use Rattle.lq_board.specs.Book.{IsFullBook}
use Rattle.lq_board.specs.Roll.{IsMerged, numbers}
use Rattle.lq_board.specs.Token.{SeatToken}
use Rattle.lq_update.specs.declared.mark.Mark.{Mark}
use Rattle.lq_update.specs.Options.{no_values}
use Rattle.lq_update.specs.Updates.{updates_of}
use Rattle.lq_server_slots.specs.declared.identity.Identity.{Identity}
use Rattle.lq_server_slots.specs.Rule.{query_of}
use Rattle.lq_server_slots.specs.Reading.{known_book, received, mark_read}
use Rattle.lq_server_slots.specs.Hold.{ReaderHold}
use Rattle.lq_server_slots.specs.Own.{IsOwn}
use Rattle.lq_server.specs.Counted.{AreMixed, AreRising, changes_at}
use Rattle.lq_server.specs.Retired.{IsRetired}
use Rattle.lq_server.specs.declared.server.Retired.{Retired}
use Rattle.lq_model.specs.declared.model.Followed.{Followed}

-- a reader of the same subscription, at the same server
pub record IsSameReader (old new : ReaderHold) : Type 0 where
  pub own : IsOwn new
  pub board : new.seat.board ≡ old.seat.board
  pub floor : new.reading.port.floor ≡ old.reading.port.floor

-- it has also asked for its end, and has read its mark
pub record HasHungUp (old new : ReaderHold) : Type 0 where
  pub goes : IsSameReader old new
  pub asked : new.hang_up_asked ≡ true
  pub marked : IsSome (mark_read new.reading)

-- A seat made these changes, in this order, and no others: they are new ones among its own, and the
-- book that it then knows has them.
pub record HasMade (old new : SeatToken Identity) (changes : List Change) : Type 0 where
  pub numbers : List ℕ
  pub rise : AreRising 0 numbers
  pub author : new.author
      ≡ record old.author { changes = old.author.changes ++ numbers }
  pub made : changes_at new.book numbers ≡ map (λ c. Some c) changes

-- The headline for the reader that is left, and the volume after just the changes given, from a
-- first volume.
pub record IsFollowed (start : State) (q : Query) (changes : List Change) (f : Followed)
    : Type 0 where
  -- its seat is its own, it reads this query, and it asked for its end
  pub own : IsOwn f.reader
  pub query : query_of f.reader.reading.port.floor ≡ q
  pub flags : f.reader.reading.port.floor.flags ≡ no_values false
  pub asked : f.reader.hang_up_asked ≡ true
  -- there is one lawful book of changes, which extends the book that the reader knows
  pub book : Book
  pub lawful : IsFullBook book
  pub number : f.synced.change ≡ length book.changes
  pub knows : Extends book (known_book f.reader.reading)
  -- it has read its mark, which is the mark that the last sync answered
  pub mark : Mark
  pub read : mark_read f.reader.reading ≡ Some mark
  pub synced : f.synced.mark ≡ Some mark
  pub opened : f.reader.reading.port.floor.opened ≤ mark.change
  pub within : mark.change ≤ length book.changes
  -- it has received the query's whole update list over the book, up to that mark
  pub all : received f.reader.reading
      ≡ updates_of q (no_values false) book f.reader.reading.port.floor.opened mark.change
  pub seq : mark.seq ≡ length (received f.reader.reading) + 1
  -- its entries are the query's result after the mark's change
  pub entries : f.reader.reading.result.entries ≡ result_of q (state_at book mark.change)
  -- the volume is the state after a book that extends it, from the first volume on
  pub retired : IsRetired start book f.retired.volume f.retired.changes
  -- which has just the changes given, in their order, and the query was opened before them
  pub made : retired.book.changes ≡ changes
  pub first : f.reader.reading.port.floor.opened ≡ 0

-- the book of a volume after these changes
abbrev pub book_with : State → List Change → Book
book_with start changes = record { start = start; changes = changes }

-- the change at this place is refused so after this book
pub record IsRefusedAt (book : Book) (changes : List Change) (place : ℕ) (e : Refusal)
    : Type 0 where
  pub change : Change
  pub place_is : slice_get changes place ≡ Some change
  pub refused : refused (state_of book) change ≡ Some e

-- one of these changes is refused so after a first volume and just the changes before it
abbrev pub IsOneRefused : State → List Change → Refusal → Type 0
IsOneRefused start changes e =
    (place : ℕ) × IsRefusedAt (book_with start (take place changes)) changes place e

-- memory is wanting, or one of these changes is refused so
abbrev pub AreRefused : State → List Change → Refusal → Type 0
AreRefused start changes e = (e ≡ NoMemory) ⊎ IsOneRefused start changes e

-- the first volume takes no changes, so that nothing can be opened, or memory is wanting, or one of
-- these changes is refused so
abbrev pub IsFollowRefused : State → List Change → Refusal → Type 0
IsFollowRefused start changes e =
    ((e ≡ Exhausted) × (start.limit ≡ 0)) ⊎ AreRefused start changes e

-- A seat made the first of these changes, as many as were accepted: all of them, or those before
-- the one that is refused so after the book that the seat then knows.
pub record HasApplied (old new : SeatToken Identity) (changes : List Change)
    (result : Result (Unit {0}) Refusal) : Type 0 where
  pub accepted : ℕ
  pub made : HasMade old new (take accepted changes)
  pub start : new.book.start ≡ old.book.start
  pub ok : OnOk result (take accepted changes ≡ changes)
  pub err : IfErr result (λ e. (e ≡ NoMemory) ⊎ IsRefusedAt new.book changes accepted e)

-- All changes that a seat made are the first of these. Its book begins with this volume. The next
-- change is refused so after that book, or memory was wanting.
pub record HasStopped (seat : SeatToken Identity) (start : State) (changes : List Change)
    (e : Refusal) : Type 0 where
  pub accepted : ℕ
  pub made : changes_at seat.book seat.author.changes
      ≡ map (λ c. Some c) (take accepted changes)
  pub begins : seat.book.start ≡ start
  pub refused : (e ≡ NoMemory) ⊎ IsRefusedAt seat.book changes accepted e

-- What is left after two lists of changes were made, each by a seat: the volume is the state after
-- one lawful book, from the first volume on, whose changes are just the two lists mixed, each in
-- its order.
pub record AreBothMade (start : State) (first second : List Change) (r : Retired) : Type 0 where
  pub retired : IsRetired start (book_with start []) r.volume r.changes
  pub mixed : AreMixed first second retired.book.changes

-- The change at a place of the first list is refused so after a book, from the first volume on, of
-- just the changes before it, mixed with the first of the other list, each in its order.
pub record IsRefusedAmid (start : State) (changes others : List Change) (e : Refusal) : Type 0 where
  pub place : ℕ
  pub number : ℕ
  pub book : Book
  pub begins : book.start ≡ start
  pub mixed : AreMixed (take place changes) (take number others) book.changes
  pub refused : IsRefusedAt book changes place e

-- memory is wanting, or one change of the first list is refused so
abbrev pub AreRefusedAmid : State → List Change → List Change → Refusal → Type 0
AreRefusedAmid start changes others e = (e ≡ NoMemory) ⊎ IsRefusedAmid start changes others e

-- memory is wanting, or one change of either list is refused so
abbrev pub IsPairRefused : State → List Change → List Change → Refusal → Type 0
IsPairRefused start first second e =
    AreRefusedAmid start first second e ⊎ AreRefusedAmid start second first e

-- Two seats were dismissed, no others made a change, and this is left: a book that extends what
-- both knew, whose changes have just the numbers of theirs.
pub record AreBothGathered (start : State) (one two : SeatToken Identity) (r : Retired) : Type 0
  where
    pub retired : IsRetired start one.book r.volume r.changes
    pub second : Extends retired.book two.book
    pub gathered : List ℕ
    pub all : List ℕ
    pub early : IsMerged [] one.author.changes gathered
    pub late : IsMerged gathered two.author.changes all
    pub whole : all ≡ numbers r.changes
