-- What a port of a subscription may hold.
use Rattle.std.specs.Prelude.{◌≡◌, ℕ, ◌+◌, ◌≤◌, false, List, [], ◌∷◌, ◌++◌, length, Option, Some, None}
use mathlib.Core.List.{IsPrefix}
use Rattle.lq_predicate.specs.Query.{Query, And, no_more}
use Rattle.lq_volume.specs.Book.{Book, Extends}
use Rattle.lq_board.specs.Author.{no_register}
use Rattle.lq_board.specs.Book.{IsFullBook, no_book}
use Rattle.lq_board.specs.Token.{no_board}
use Rattle.lq_update.specs.Options.{no_values}
use Rattle.lq_update.specs.declared.message.Message.{Message}
use Rattle.lq_update.specs.declared.mark.Mark.{Mark}
use Rattle.lq_update.specs.declared.parcel.Parcel.{Parcel}
use Rattle.lq_update.specs.declared.parcel.Parcel.TheVariants.{Update, Fin}
use Rattle.lq_server_slots.specs.declared.delivery.Delivery.{Delivery}
use Rattle.lq_server_slots.specs.declared.delivery.Opening.{Opening}
use Rattle.lq_server_slots.specs.Updates.{updates}

-- a floor for what has none
abbrev pub no_opening : Opening
no_opening =
    record {
      query = record { marker = record {}; value = And no_more };
      flags = no_values false;
      opened = 0;
      book =
          record {
            marker = record {};
            value =
                record { board = no_board; book = no_book; slots = []; register = no_register };
          };
    }

-- the book that goes with a parcel
abbrev pub book_of : Delivery → Book
book_of p = p.book.value.book

-- the book at the opening
abbrev pub floor_of : Opening → Book
floor_of f = f.book.value.book

-- the query
abbrev pub query_of : Opening → Query
query_of f = f.query.value

-- the message of a parcel, if it is one
abbrev pub message_of : Parcel → List Message
message_of (Update m) = m ∷ []
message_of (Fin k) = []

-- the mark of a parcel, or else another mark
abbrev pub mark_or : Parcel → Option Mark → Option Mark
mark_or (Update m) o = o
mark_or (Fin k) o = Some k

-- the messages among the parcels
abbrev pub messages_in : List Delivery → List Message
messages_in [] = []
messages_in (p ∷ ps) = message_of p.what ++ messages_in ps

-- the mark among the parcels
abbrev pub mark_in : List Delivery → Option Mark
mark_in [] = None
mark_in (p ∷ ps) = mark_or p.what (mark_in ps)

-- the book of the last parcel
abbrev pub last_book : Book → List Delivery → Book
last_book book [] = book
last_book book (p ∷ ps) = last_book (book_of p) ps

-- the updates over a book from the opening up to change n
abbrev pub upto_change : Opening → Book → ℕ → List Message
upto_change f book n = updates (query_of f) f.flags book f.opened n

-- and all updates over it
abbrev pub all_updates : Opening → Book → List Message
all_updates f book = upto_change f book (length book.changes)

-- the mark comes after all updates up to its change, which isn't before the opening
pub record IsMark (f : Opening) (messages : List Message) (book : Book) (k : Mark) : Type 0 where
  pub all : messages ≡ upto_change f book k.change
  pub seq : k.seq ≡ length messages + 1
  pub opened : f.opened ≤ k.change
  pub within : k.change ≤ length book.changes

-- which parcel may come after these messages and over this book: the next update, or the mark
abbrev pub Tells : Opening → List Message → Book → Parcel → Type 0
Tells f messages book (Update m) = IsPrefix (messages ++ m ∷ []) (all_updates f book)
Tells f messages book (Fin k) = IsMark f messages book k

-- x may come after these parcels: its book extends theirs, and it is the next update over that
-- book, or the mark
pub record MayFollow (before : List Delivery) (f : Opening) (x : Delivery) : Type 0 where
  pub later : Extends (book_of x) (last_book (floor_of f) before)
  pub full : IsFullBook (book_of x)
  pub open_yet : mark_in before ≡ None
  pub tells : Tells f (messages_in before) (book_of x) x.what
