-- What is known of the parcels of a port, by their rule.
use Rattle.std.specs.Prelude.{◌≡◌, List, length, IfSome}
use mathlib.Core.List.{IsPrefix}
use Rattle.lq_volume.specs.Book.{Book, Extends}
use Rattle.lq_board.specs.Book.{IsFullBook}
use Rattle.lq_server_slots.specs.declared.delivery.Delivery.{Delivery}
use Rattle.lq_server_slots.specs.declared.delivery.Opening.{Opening}
use Rattle.lq_server_slots.specs.Rule.{floor_of, messages_in, mark_in, last_book, all_updates, IsMark}

-- the book that is known from these parcels
abbrev pub known_by : Opening → List Delivery → Book
known_by f ps = last_book (floor_of f) ps

-- the last book extends the floor, the messages are a prefix of its updates, and a mark comes last
pub record LegalList (f : Opening) (ps : List Delivery) : Type 0 where
  pub opening : f.opened ≡ length (floor_of f).changes
  pub later : Extends (known_by f ps) (floor_of f)
  pub full : IsFullBook (known_by f ps)
  pub front : IsPrefix (messages_in ps) (all_updates f (known_by f ps))
  pub mark : IfSome (mark_in ps) (IsMark f (messages_in ps) (known_by f ps))
