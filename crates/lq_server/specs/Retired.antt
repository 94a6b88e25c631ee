-- What a server leaves at its end.
use Rattle.std.specs.Prelude.{◌≡◌, ℕ, length}
use Rattle.lq_volume.specs.State.{State}
use Rattle.lq_volume.specs.Book.{Book, Extends, state_of}
use Rattle.lq_board.specs.Book.{IsFullBook}

-- the volume is the state after a lawful book of this many changes, which begins with this volume
-- and extends the known book; its limit stays
pub record IsRetired (start : State) (known : Book) (volume : State) (changes : ℕ) : Type 0 where
  pub book : Book
  pub full : IsFullBook book
  pub begins : book.start ≡ start
  pub later : Extends book known
  pub state : volume ≡ state_of book
  pub number : changes ≡ length book.changes
  pub limit : volume.limit ≡ start.limit
