-- The replies of a seat's run, where all changes that the seat knows are its own.
use Rattle.std.specs.Prelude.{◌≡◌, ◌≢◌, ℕ, ◌≤◌, List, [], ◌∷◌, ◌++◌, length, Result, Ok, Err}
use Rattle.lq_value.specs.declared.refusal.Refusal.{Refusal}
use Rattle.lq_value.specs.declared.refusal.Refusal.TheVariants.{NoMemory}
use Rattle.lq_volume.specs.Book.{IsBook}
use Rattle.lq_board.specs.Token.{SeatToken}
use Rattle.lq_server_slots.specs.declared.identity.Identity.{Identity}
use Rattle.lq_script_desk.specs.Response.{Response, Refuses}
use Rattle.lq_script_desk.specs.Session.{Session}
use Rattle.lq_script_lines.specs.declared.run_fault.RunFault.{RunFault}
use Rattle.lq_script.specs.Asked.{AreReplies, Asked, after_asked, asked_reads}

-- the book that the seat knows has its own changes
abbrev pub KnowsOwn : SeatToken Identity → Type 0
KnowsOwn s = length s.author.changes ≤ length s.book.changes

-- All changes that the seat knows are its own. They are lawful, and number 1 is the first.
pub record HasMadeAll (s : SeatToken Identity) : Type 0 where
  pub all : length s.book.changes ≡ length s.author.changes
  pub lawful : IsBook s.book
  pub first : s.book.start.number ≡ 0

-- If at the end all changes that the seat knows are its own, these are those of a script's lines:
-- with a session whose book the seat knew before, the lines `done` have these replies, and after
-- them and `next` the session's book is the one that the seat then knows.
pub record Answers (old new : SeatToken Identity) (done next : List Asked)
    (replies : List Response) : Type 0 where
  pub knows : KnowsOwn old → KnowsOwn new
  pub before : KnowsOwn old → HasMadeAll new → HasMadeAll old
  pub replied : KnowsOwn old → HasMadeAll new → (s : Session) → s.core.book ≡ old.book
      → AreReplies s done replies
  pub book : KnowsOwn old → HasMadeAll new → (s : Session) → s.core.book ≡ old.book
      → (after_asked s (done ++ next)).core.book ≡ new.book

-- A line that was refused changed nothing. Unless memory was wanting, the refusal is its reply.
pub record AnswersRefusal (old new : SeatToken Identity) (a : Asked) (e : Refusal) : Type 0 where
  pub none : Answers old new [] [] []
  pub refused : e ≢ NoMemory → Answers old new (a ∷ []) [] (Refuses e ∷ [])

-- ---- lines that were carried out

-- If these lines succeeded, all have a reply, but for the reads that wait. After a fault one line
-- at most was carried out without one.
abbrev pub LeavesUnreplied : Result (Unit {0}) RunFault → List Asked → List Asked → List ℕ → Type 0
LeavesUnreplied (Ok done) next more slots = (next ≡ []) × (more ≡ asked_reads slots)
LeavesUnreplied (Err fault) next more slots = length next ≤ 1

-- These lines came after reads that waited. A front of all these has replies, and other reads wait
-- at the end.
pub record Replies (asked : List Asked) (result : Result (Unit {0}) RunFault)
    (replies : List Response) (old new : SeatToken Identity) (slots slots' : List ℕ)
    : Type 0 where
  pub done : List Asked
  pub next : List Asked
  pub more : List Asked
  pub split : asked_reads slots ++ asked ≡ done ++ (next ++ more)
  pub leaves : LeavesUnreplied result next more slots'
  pub answers : Answers old new done next replies
