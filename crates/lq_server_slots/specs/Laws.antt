-- What holds for each book and each new subscription.
use Rattle.std.specs.Prelude.{◌≡◌, ℕ, ◌≤◌, [], length}
use Rattle.lq_predicate.specs.Query.{Query}
use Rattle.lq_volume.specs.Book.{Book, Extends, number_of, state_at}
use Rattle.lq_board.specs.Book.{IsFullBook}
use Rattle.lq_update.specs.declared.open_options.Flags.{Flags}
use Rattle.lq_update.specs.Updates.{updates_of}
use Rattle.lq_desk_sub.specs.Held.{opened_with}
use Rattle.lq_port.specs.End.{End}
use Rattle.lq_server_slots.specs.declared.delivery.Delivery.{Delivery}
use Rattle.lq_server_slots.specs.declared.delivery.Opening.{Opening}
use Rattle.lq_server_slots.specs.declared.identity.FirstClose.TheVariants.{Never}
use Rattle.lq_server_slots.specs.declared.identity.LastReport.TheVariants.{Live}
use Rattle.lq_server_slots.specs.Updates.{updates}
use Rattle.lq_server_slots.specs.Rule.{floor_of, query_of}
use Rattle.lq_server_slots.specs.Standing.{Stands}

-- a book extends itself
abbrev pub BooksExtendThemselves : Type 0
BooksExtendThemselves = (b : Book) → Extends b b

-- extension of books is transitive
abbrev pub BooksExtendOn : Type 0
BooksExtendOn = (b c d : Book) → Extends c b → Extends d c → Extends d b

-- a longer book leads to the same state at each number of the shorter one
abbrev pub StatesStay : Type 0
StatesStay =
    (longer b : Book) (n : ℕ) → Extends longer b → n ≤ number_of b
    → state_at longer n ≡ state_at b n

-- the update list of a port's rule is the query's update list
abbrev pub UpdatesAreUpdateLists : Type 0
UpdatesAreUpdateLists =
    (q : Query) (flags : Flags) (b : Book) (m n : ℕ)
    → updates q flags b m n ≡ updates_of q flags b m n

-- a subscription that is opened over a book, with an empty port, stands over it
abbrev pub NewSubscriptionsStand : Type 0
NewSubscriptionsStand =
    (q : Query) (flags : Flags) (backlog : ℕ) (e : End Delivery Opening) (places : ℕ) (book : Book)
    → e.taken ≡ []
    → e.ahead ≡ []
    → floor_of e.floor ≡ book
    → query_of e.floor ≡ q
    → e.floor.flags ≡ flags
    → e.floor.opened ≡ length book.changes
    → e.places ≡ places
    → IsFullBook book
    → Stands (opened_with q flags (length book.changes) backlog) e places
    (Live (length book.changes) 0) Never book
