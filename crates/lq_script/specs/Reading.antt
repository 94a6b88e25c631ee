-- What a run by a server has read, and which replies it has for that.
use Rattle.std.specs.Prelude.{◌≡◌, ℕ, ◌≤◌, List, [], ◌∷◌, ◌++◌, length, true, Result, Ok, Err}
use Rattle.std.specs.Io.KnownBytes.{Consumes, IsAtEnd}
use Rattle.lq_volume.specs.Book.{Book}
use mathlib.Core.List.{IsPrefix}
use Rattle.lq_script_lines.specs.Lines.{ended_lines, lines_of}
use Rattle.lq_script_lines.specs.Outcome.{ReaderLog}
use Rattle.lq_script_lines.specs.Output.{IsWithinInput}
use Rattle.lq_script_lines.specs.declared.run_fault.RunFault.{RunFault}
use Rattle.lq_script_lines.specs.declared.run_fault.RunFault.TheVariants.{Read, Write, Limit, Memory, Thread}
use Rattle.lq_script_desk.specs.Response.{Response}
use Rattle.lq_script_desk.specs.Script.{script_session}
use Rattle.lq_script.specs.Asked.{AreReplies, Asked, after_asked, asked_in}

-- ---- what was read

-- The input was read to its end, within the limits; all its lines ask this.
pub record HasReadAll (reader : ReaderLog) (asked : List Asked) : Type 0 where
  pub given : List ℕ
  pub consumed : Consumes reader.left reader.left' given
  pub at_end : IsAtEnd reader.left'
  pub within : IsWithinInput given
  pub asks : asked ≡ asked_in (lines_of given)

-- the reader failed after these bytes; the lines that LF ended by then ask this
pub record HasFailed (reader : ReaderLog) (asked : List Asked) : Type 0 where
  pub given : List ℕ
  pub consumed : Consumes reader.left reader.left' given
  pub fails : reader.failed ≡ true
  pub within : IsWithinInput given
  pub asks : asked ≡ asked_in (ended_lines given)

-- a byte beyond the limits was read; the lines that LF ended within them ask this
pub record HasPassed (reader : ReaderLog) (asked : List Asked) : Type 0 where
  pub given : List ℕ
  pub next : ℕ
  pub rest : List ℕ
  pub consumed : Consumes reader.left reader.left' (given ++ next ∷ rest)
  pub within : IsWithinInput given
  pub passes : ¬ IsWithinInput (given ++ next ∷ [])
  pub asks : asked ≡ asked_in (ended_lines given)

-- the first lines of what was read ask this
pub record HasReadSome (reader : ReaderLog) (asked : List Asked) : Type 0 where
  pub given : List ℕ
  pub consumed : Consumes reader.left reader.left' given
  pub front : IsPrefix asked (asked_in (lines_of given))

-- what a run has read, by its fault and by its answer; no run ends for want of a thread
abbrev pub HasReadAfter : RunFault → ReaderLog → List Asked → Type 0
HasReadAfter Read reader asked = HasFailed reader asked
HasReadAfter Write reader asked = HasReadSome reader asked
HasReadAfter Limit reader asked = HasPassed reader asked
HasReadAfter Memory reader asked = HasReadSome reader asked
HasReadAfter Thread reader asked = ⊥

abbrev pub HasRead : Result (Unit {0}) RunFault → ReaderLog → List Asked → Type 0
HasRead (Ok done) reader asked = HasReadAll reader asked
HasRead (Err fault) reader asked = HasReadAfter fault reader asked

-- ---- the replies for it

-- Which lines have no reply. After Write and Memory there may be some, and the first of them may
-- have been carried out.
abbrev pub UnansweredAfter : RunFault → List Asked → List Asked → Type 0
UnansweredAfter Read next more = (next ≡ []) × (more ≡ [])
UnansweredAfter Write next more = length next ≤ 1
UnansweredAfter Limit next more = (next ≡ []) × (more ≡ [])
UnansweredAfter Memory next more = length next ≤ 1
UnansweredAfter Thread next more = ⊥

abbrev pub Unanswered : Result (Unit {0}) RunFault → List Asked → List Asked → Type 0
Unanswered (Ok done) next more = (next ≡ []) × (more ≡ [])
Unanswered (Err fault) next more = UnansweredAfter fault next more

-- The replies are those of a script to its first lines. The book is that of the script's world
-- after them, and after `next`, which may have been carried out without a reply.
pub record AnswersScript (result : Result (Unit {0}) RunFault) (asked : List Asked) (made : Book)
    (replies : List Response) : Type 0 where
  pub done : List Asked
  pub next : List Asked
  pub more : List Asked
  pub split : asked ≡ done ++ (next ++ more)
  pub unanswered : Unanswered result next more
  pub replied : AreReplies script_session done replies
  pub book : (after_asked script_session (done ++ next)).core.book ≡ made
