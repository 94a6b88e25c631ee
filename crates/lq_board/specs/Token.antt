-- What a contract sees of a token.
use Rattle.std.specs.Prelude.{◌≡◌, ◌⊎◌, ℕ, Bool, true, false, List, [], ◌∷◌, Option, Some, None}
use Rattle.atomic_table.specs.Seated.{TableId}
use Rattle.atomic_table.specs.Table.{Me}
use Rattle.atomic_table.specs.declared.shared.Seat.{Seat}
use Rattle.lq_volume.specs.Book.{Book}
use Rattle.lq_board.specs.Known.{KnownSlot, Author, Register, Moment, TokenView, Spent}
use Rattle.lq_board.specs.View.{keeping_of, sitting_of}
use Rattle.lq_board.specs.Author.{new_author}

-- which board it is: its words, and whether each seat may make changes (`free`), or just those that
-- its leading seat enlists
pub record BoardName : Type 0 where
  pub table : TableId
  pub free : Bool

-- the keeper of a board: the book of all changes, what it knows of each slot, and who made each
-- change
pub record KeeperToken (M : Type 0) : Type 0 where
  pub board : BoardName
  pub book : Book
  pub slots : List (KnownSlot M)
  pub register : Register

-- a seat: the book that it knows, its slot or 0, how often it has asked, its name, what it is as an
-- author, the moments of the keeper that it has recorded, in order, and how many seats of no slot
-- and of a slot (`openings`) calls made for it
pub record SeatToken (M : Type 0) : Type 0 where
  pub board : BoardName
  pub slot : ℕ
  pub book : Book
  pub asks : ℕ
  pub name : Option M
  pub author : Author
  pub moments : List (Moment M)
  pub seats : ℕ
  pub openings : ℕ

-- the name of no board
abbrev pub no_table : TableId
no_table =
    record {
      words = 0;
      slots = 0;
      views_name = 0;
      atom = 0;
      block = 0;
      offset = 0;
      slot_names = [];
    }

abbrev pub no_board : BoardName
no_board = record { table = no_table; free = true }

-- the same board, where just the seats that are enlisted may make changes
abbrev pub counted_board : BoardName → BoardName
counted_board b = record b { free = false }

module _ {M : Type 0} where
  abbrev pub keeper_token : TableId → Me ℕ (TokenView M) → KeeperToken M
  keeper_token table me =
      record {
        board = record { table = table; free = (keeping_of me.0).register.free };
        book = (keeping_of me.0).book;
        slots = (keeping_of me.0).slots;
        register = (keeping_of me.0).register;
      }

  abbrev pub seat_token : TableId → Me ℕ (TokenView M) → SeatToken M
  seat_token table me =
      record {
        board = record { table = table; free = (sitting_of me.0).author.free };
        slot = (sitting_of me.0).slot;
        book = (sitting_of me.0).book;
        asks = (sitting_of me.0).asks;
        name = (sitting_of me.0).name;
        author = (sitting_of me.0).author;
        moments = (sitting_of me.0).moments;
        seats = (sitting_of me.0).seats;
        openings = (sitting_of me.0).openings;
      }

  -- a new seat of no slot
  abbrev pub slotless_token : BoardName → Book → Author → SeatToken M
  slotless_token board book author =
      record {
        board = board;
        slot = 0;
        book = book;
        asks = 0;
        name = None;
        author = author;
        moments = [];
        seats = 0;
        openings = 0;
      }

  -- the seat may have seats of a slot made for it
  abbrev pub MayOpen : SeatToken M → Type 0
  MayOpen s = (s.author.signs ≡ true) ⊎ (s.author.leads ≡ true)

  -- what a keeper has at a moment: its book, what it knows of the slots, and the openings so far
  abbrev pub moment_of : KeeperToken M → Moment M
  moment_of k = record { book = k.book; slots = k.slots; openings = k.register.openings }

  -- the new seat of no slot that this keeper gives out
  abbrev pub new_seat_of : KeeperToken M → SeatToken M
  new_seat_of k =
      record (slotless_token k.board k.book (new_author k.register)) { moments = moment_of k ∷ [] }

  -- a seat's view of the words, which is absent only within a call
  abbrev pub table_of : Option (Seat ℕ (TokenView M)) → TableId
  table_of (Some token) = token.table_id
  table_of None = no_table

  abbrev pub me_of : Option (Seat ℕ (TokenView M)) → Me ℕ (TokenView M)
  me_of (Some token) = token.me
  me_of None = (Spent, [])
