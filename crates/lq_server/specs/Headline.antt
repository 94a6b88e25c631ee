-- The headline: what holds for each reader, and for the answers of its reads in their order.
use Rattle.std.specs.Prelude.{◌≡◌, ℕ, ◌+◌, ◌≤◌, List, [], ◌∷◌, ◌++◌, length, Some, None, IsSome}
use Rattle.std.specs.List.{AllByRecursion}
use mathlib.Core.List.{IsPrefix}
use Rattle.lq_value.specs.declared.entry.Entry.{Entry}
use Rattle.lq_volume.specs.Book.{Book, Extends, state_at}
use Rattle.lq_volume.specs.Result.{result_of}
use Rattle.lq_board.specs.Book.{IsFullBook}
use Rattle.lq_update.specs.declared.message.Message.{Message}
use Rattle.lq_update.specs.declared.mark.Mark.{Mark}
use Rattle.lq_update.specs.Updates.{updates_of, IsSettled}
use Rattle.lq_update.specs.Fold.{folded, last_change}
use Rattle.lq_desk_sub.specs.declared.read.Read.{Read}
use Rattle.lq_desk_sub.specs.declared.read.Read.TheVariants.{Update, Fin, Empty, Ended}
use Rattle.lq_port.specs.End.{IsSamePort}
use Rattle.lq_server_slots.specs.declared.delivery.Opening.{Opening}
use Rattle.lq_server_slots.specs.Rule.{query_of}
use Rattle.lq_server_slots.specs.Reading.{ReadingHold, Gives, known_book, received, mark_read}
use Rattle.lq_server_slots.specs.Hold.{ReaderHold}

-- the query's update list over a book, from the opening up to change n
abbrev pub updates_upto : Opening → Book → ℕ → List Message
updates_upto f b n = updates_of (query_of f) f.flags b f.opened n

-- the query's result over a book after change n
abbrev pub result_after : Opening → Book → ℕ → List Entry
result_after f b n = result_of (query_of f) (state_at b n)

-- the messages are numbered n, n + 1, and so on
abbrev pub AreNumbered : ℕ → List Message → Type 0
AreNumbered n [] = Unit {0}
AreNumbered n (m ∷ ms) = (m.seq ≡ n) × AreNumbered (n + 1) ms

-- These messages are the whole update list up to the change that the mark names, and the mark's
-- number is one more than theirs.
pub record IsMarkAfter (f : Opening) (b : Book) (messages : List Message) (k : Mark)
    : Type 0 where
  pub opened : f.opened ≤ k.change
  pub within : k.change ≤ length b.changes
  pub all : messages ≡ updates_upto f b k.change
  pub seq : k.seq ≡ length messages + 1

-- where the mark was read, the messages received are the whole list up to its change
abbrev pub EndsWhole : ReadingHold → Type 0
EndsWhole r =
    (k : Mark) → mark_read r ≡ Some k → IsMarkAfter r.port.floor (known_book r) (received r) k

-- The headline for one reader, over the book that it knows.
pub record ReaderIsTold (r : ReaderHold) : Type 0 where
  -- its book is lawful and begins at no change, and the opening is within it
  pub book : IsFullBook (known_book r.reading)
  pub opened : r.reading.port.floor.opened ≤ length (known_book r.reading).changes
  -- what was received is a prefix of the query's update list, each message once and in order
  pub prefix : IsPrefix (received r.reading)
      (updates_upto r.reading.port.floor (known_book r.reading)
      (length (known_book r.reading).changes))
  pub once : AreNumbered 1 (received r.reading)
  -- the mark comes only after the whole list up to the change that it names
  pub mark : EndsWhole r.reading
  -- and nothing but `Ended` comes after it
  pub over : IsSome (mark_read r.reading) → (next : ReadingHold) (a : Read) → EndsWhole next
      → Gives r.reading next a → a ≡ Ended
  -- after each message that is the last of its change, the result is the query's after that change
  pub settled : IsSettled (received r.reading) → r.reading.result.entries
      ≡ result_after r.reading.port.floor (known_book r.reading)
      (last_change r.reading.port.floor.opened (received r.reading))
  -- after the mark, the result is the query's after the change that the mark names
  pub closed : (k : Mark) → mark_read r.reading ≡ Some k → r.reading.result.entries
      ≡ result_after r.reading.port.floor (known_book r.reading) k.change

-- how a reading goes on over a call of its reader, except a read that answers
pub record GoesOn (old new : ReadingHold) : Type 0 where
  pub port : IsSamePort old.port new.port
  pub known : Extends (known_book new) (known_book old)
  pub received : received new ≡ received old
  pub mark : mark_read new ≡ mark_read old

-- and over a read that answers
pub record IsAnswered (old new : ReadingHold) (a : Read) : Type 0 where
  pub port : IsSamePort old.port new.port
  pub known : Extends (known_book new) (known_book old)
  pub gives : Gives old new a

-- from old to new the reads of a reader answered these, in their order
abbrev pub AreAnswers : ReadingHold → List Read → ReadingHold → Type 0
AreAnswers old [] new = GoesOn old new
AreAnswers old (a ∷ answers) new =
    (mid : ReadingHold) × (next : ReadingHold)
    × GoesOn old mid × IsAnswered mid next a × AreAnswers next answers new

-- the messages among the answers
abbrev pub update_in : Read → List Message
update_in (Update m) = m ∷ []
update_in (Fin k) = []
update_in Empty = []
update_in Ended = []

abbrev pub updates_read : List Read → List Message
updates_read [] = []
updates_read (a ∷ answers) = update_in a ++ updates_read answers

-- the mark is among them
abbrev pub ReadsHaveMark : List Read → Type 0
ReadsHaveMark answers =
    (k : Mark) × (front : List Read) × (rest : List Read) × (answers ≡ front ++ Fin k ∷ rest)

-- What the reads of a subscription answer, over a book.
pub record AnswersTell (f : Opening) (b : Book) (answers : List Read) : Type 0 where
  -- the messages are a prefix of the query's update list, each once and in order
  pub prefix : IsPrefix (updates_read answers) (updates_upto f b (length b.changes))
  pub once : AreNumbered 1 (updates_read answers)
  -- the mark comes after the whole list up to the change that it names, and only `Ended` after it
  pub mark : (front rest : List Read) (k : Mark) → answers ≡ front ++ Fin k ∷ rest
      → IsMarkAfter f b (updates_read front) k × AllByRecursion (λ a. a ≡ Ended) rest
  -- `Ended` comes only after the mark
  pub ended : (front rest : List Read) → answers ≡ front ++ Ended ∷ rest → ReadsHaveMark front
  -- after each message that is the last of its change, folding the messages into the opening's
  -- result gives the result after that change
  pub folding : (front rest : List Read) → answers ≡ front ++ rest → IsSettled (updates_read front)
      → folded (result_after f b f.opened) (updates_read front)
      ≡ result_after f b (last_change f.opened (updates_read front))
  -- before the mark, folding gives the result after the change that the mark names
  pub closing : (front rest : List Read) (k : Mark) → answers ≡ front ++ Fin k ∷ rest
      → folded (result_after f b f.opened) (updates_read front) ≡ result_after f b k.change

-- For a reader that had received nothing, and whose reads then gave these answers: it has received
-- the messages among them, and `AnswersTell` holds over the book that it knows.
abbrev pub AnswersAreTold : Type 0
AnswersAreTold =
    (first last : ReaderHold) (answers : List Read) → received first.reading ≡ []
    → mark_read first.reading ≡ None → AreAnswers first.reading answers last.reading
    → ReaderIsTold last
    → (received last.reading ≡ updates_read answers)
    × AnswersTell last.reading.port.floor (known_book last.reading) answers
