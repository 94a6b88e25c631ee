-- A counted server, whose seats make changes just while its leading seat has them enlisted, and the
-- calls by which its changes were made.
use Rattle.std.specs.Prelude.{◌≡◌, ◌⊎◌, ℕ, ◌+◌, ◌-◌, ◌<◌, List, [], ◌∷◌, length, map, slice_get, take, Option, Some, All, Contains}
use Rattle.lq_volume.specs.State.{State}
use Rattle.lq_volume.specs.declared.change.Change.{Change}
use Rattle.lq_volume.specs.declared.change.Applied.{Applied}
use Rattle.lq_volume.specs.Book.{Book, Extends}
use Rattle.lq_board.specs.Roll.{numbers, times, IsMerged}
use Rattle.lq_board.specs.Known.{Moment}
use Rattle.lq_board.specs.Token.{BoardName, SeatToken}
use Rattle.lq_server_slots.specs.declared.identity.Identity.{Identity}
use Rattle.lq_server_slots.specs.Applied.{IsAdded}
pub use Rattle.lq_server_slots.specs.Leading.{leading_seat}

-- the leading seat of a new server, for which one seat and one reader were made, and which has
-- recorded these moments
abbrev pub leading_callers : BoardName → State → List (Moment Identity) → SeatToken Identity
leading_callers board start moments =
    record (leading_seat board start) { moments = moments; seats = 1; openings = 1 }

-- an accepted call: its change, its answer, and what its seat knew before and after it
pub record AcceptedCall : Type 0 where
  pub change : Change
  pub answer : Applied
  pub before : Book
  pub after : Book

-- the numbers that calls were answered
abbrev pub numbers_answered : List AcceptedCall → List ℕ
numbers_answered calls = map (λ c. c.answer.change) calls

-- `apply` answered the call, and this book extends what the seat then knew
pub record IsCallIn (book : Book) (call : AcceptedCall) : Type 0 where
  pub added : IsAdded call.before call.after call.answer call.change
  pub later : Extends book call.after

-- change n + 1 of the book is that of one of these calls, and of one only
pub record IsOneCalls (book : Book) (calls : List AcceptedCall) (n : ℕ) : Type 0 where
  pub call : AcceptedCall
  pub among : Contains calls call
  pub number : call.answer.change ≡ n + 1
  pub place : slice_get book.changes n ≡ Some call.change
  pub once : times (n + 1) (numbers_answered calls) ≡ 1

-- where calls were answered the numbers of a book's changes, each once, each change of the book is
-- that of one call
abbrev pub CallsMakeTheBook : Type 0
CallsMakeTheBook =
    (book : Book) (calls : List AcceptedCall) → All (IsCallIn book) calls
    → ((x : ℕ) → times x (numbers_answered calls) ≡ times x (numbers (length book.changes)))
    → (n : ℕ) → n < length book.changes → IsOneCalls book calls n

-- the changes of a book that have these numbers
abbrev pub changes_at : Book → List ℕ → List (Option Change)
changes_at book ns = map (λ n. slice_get book.changes (n - 1)) ns

-- the numbers rise, and all of them are above n
abbrev pub AreRising : ℕ → List ℕ → Type 0
AreRising n [] = Unit {0}
AreRising n (x ∷ xs) = (n < x) × AreRising x xs

-- a seat made just these changes of the book, in this order
pub record HasMadeJust (book : Book) (seat : SeatToken Identity) (changes : List Change)
    : Type 0 where
  pub rise : AreRising 0 seat.author.changes
  pub made : changes_at book seat.author.changes ≡ map (λ c. Some c) changes

-- zs is xs and ys mixed, each in its order: each element of zs is the first of what is left of xs,
-- or of ys
abbrev pub AreMixed : {T : Type 0} → List T → List T → List T → Type 0
AreMixed xs ys [] = (xs ≡ []) × (ys ≡ [])
AreMixed {T = T} xs ys (z ∷ zs) =
    ((rest : List T) × (xs ≡ z ∷ rest) × AreMixed rest ys zs)
    ⊎ ((rest : List T) × (ys ≡ z ∷ rest) × AreMixed xs rest zs)

-- zs is all of xs mixed with the first of ys
pub record AreMixedFirst (xs ys zs : List Change) : Type 0 where
  pub others : ℕ
  pub mixed : AreMixed xs (take others ys) zs

-- each earlier book in which a seat had made all of its changes is those mixed with the first of
-- the others
abbrev pub AreMixedEarlier : Book → SeatToken Identity → List Change → List Change → Type 0
AreMixedEarlier book seat changes others =
    (earlier : Book) → Extends book earlier → HasMadeJust earlier seat changes
    → AreMixedFirst changes others earlier.changes

-- Where two seats made these changes of a book, and the numbers of both are those of all its
-- changes, each once, the book is just these changes mixed, and so are the numbers, and each book
-- before it in which one of them had made all of its changes.
abbrev pub TwoSeatsMakeTheBook : Type 0
TwoSeatsMakeTheBook =
    (book : Book) (one two : SeatToken Identity) (first second : List Change)
    (gathered all : List ℕ) → HasMadeJust book one first → HasMadeJust book two second
    → IsMerged [] one.author.changes gathered → IsMerged gathered two.author.changes all
    → all ≡ numbers (length book.changes)
    → AreMixed first second book.changes
    × AreMixed one.author.changes two.author.changes all
    × AreMixedEarlier book one first second
    × AreMixedEarlier book two second first
