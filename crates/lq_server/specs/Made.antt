-- The changes that a seat makes, in the book that it then knows.
use Rattle.std.specs.Prelude.{◌≡◌, ℕ, ◌-◌, List, ◌++◌, map, take, slice_get, Some}
use Rattle.std.specs.List.{AllByRecursion}
use Rattle.lq_volume.specs.State.{State}
use Rattle.lq_volume.specs.declared.change.Change.{Change}
use Rattle.lq_volume.specs.declared.change.Applied.{Applied}
use Rattle.lq_volume.specs.Change.{node_of}
use Rattle.lq_volume.specs.Book.{Book, Extends, after_all}
use Rattle.lq_board.specs.Token.{SeatToken}
use Rattle.lq_server_slots.specs.declared.identity.Identity.{Identity}

-- the state before change n of a book
abbrev pub state_before : Book → ℕ → State
state_before book n = after_all book.start (take (n - 1) book.changes)

-- the book has a change of this number, and that change created or named this node
pub record IsChangeOf (book : Book) (applied : Applied) : Type 0 where
  pub change : Change
  pub place : slice_get book.changes (applied.change - 1) ≡ Some change
  pub node : applied.node ≡ node_of (state_before book applied.change) change

-- A seat made these changes more, in this order, and no others. The book that it then knows has
-- them.
pub record MakesMore (old new : SeatToken Identity) (made : List Applied) : Type 0 where
  pub author : new.author
      ≡ record old.author { changes = old.author.changes ++ map (λ a. a.change) made }
  pub later : Extends new.book old.book
  pub each : AllByRecursion (IsChangeOf new.book) made

-- no seat and no reader was made for it
abbrev pub NoneMadeFor : SeatToken Identity → SeatToken Identity → Type 0
NoneMadeFor old new = (new.seats ≡ old.seats) × (new.openings ≡ old.openings)
