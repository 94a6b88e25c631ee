-- What a change leaves in a seat and its book.
use Rattle.std.specs.Prelude.{◌≡◌, ◌+◌, ◌<◌, ◌≤◌, ℕ, true, [], ◌∷◌, ◌++◌, length, slice_index, Result, IfOk, IfErr, OnErr, unwrap_or}
use Rattle.lq_value.specs.declared.refusal.Refusal.{Refusal}
use Rattle.lq_value.specs.declared.refusal.Refusal.TheVariants.{NoMemory}
use Rattle.lq_volume.specs.declared.change.Change.{Change}
use Rattle.lq_volume.specs.declared.change.Applied.{Applied}
use Rattle.lq_volume.specs.Change.{node_of, refused}
use Rattle.lq_volume.specs.Book.{Book, Extends, grown, state_of}
use Rattle.lq_board.specs.Author.{with_change}
use Rattle.lq_board.specs.Known.{Moment}
use Rattle.lq_board.specs.Slot.{slot_at}
use Rattle.lq_board.specs.Token.{SeatToken}
use Rattle.lq_server_slots.specs.declared.identity.Identity.{Identity}
use Rattle.lq_server_slots.specs.Slots.{before_of}

-- the change is the last of a book that extends the old one, and its number is above that of all
-- changes known before
pub record IsAdded (old new : Book) (a : Applied) (c : Change) : Type 0 where
  pub later : Extends new old
  pub above : length old.changes < a.change
  pub number : a.change ≡ length new.changes
  pub place : new ≡ grown (before_of new) (c ∷ [])
  pub node : a.node ≡ node_of (state_of (before_of new)) c

-- A seat, s before and t after, applied a change, and then knows this book. Only an accepted change
-- is one of its own; a moment may be recorded. A refused one is refused as the volume refuses it
-- after that book, or for memory.
pub record IsApplied (c : Change) (book : Book) (s t : SeatToken Identity)
    (result : Result Applied Refusal) : Type 0 where
  pub seat : t ≡ record s { book = book; author = t.author; moments = t.moments }
  pub author : IfOk result (λ a. t.author ≡ with_change s.author a.change)
  pub others : OnErr result (t.author ≡ s.author)
  pub later : Extends t.book s.book
  pub ok : IfOk result (λ a. IsAdded s.book t.book a c)
  pub err : IfErr result (λ e. e ≡ unwrap_or (refused (state_of t.book) c) NoMemory)

-- The seat, s before and t after, recorded a moment of the keeper, when that had the book that the
-- seat then knows, and had looked at the requests of each slot whose seat is out: it knew of at
-- least as many as the seat had heard of before.
pub record HasLooked (s t : SeatToken Identity) : Type 0 where
  pub moment : Moment Identity
  pub noted : t.moments ≡ s.moments ++ moment ∷ []
  pub book : moment.book ≡ t.book
  pub heard : (i : ℕ) → i < 64 → (slot_at moment.slots (i + 1)).out ≡ true
      → slice_index s.author.heard (i + 1) ≤ (slot_at moment.slots (i + 1)).asks
