-- The changes that a run's server made, as the replies to the script's lines tell them.
use Rattle.std.specs.Prelude.{◌≡◌, ℕ, ◌≤◌, List, [], ◌∷◌, ◌++◌, length, map, Option, Result, Ok, Err}
use Rattle.std.specs.List.{AllByRecursion}
use Rattle.lq_volume.specs.State.{empty_state}
use Rattle.lq_volume.specs.declared.change.Applied.{Applied}
use Rattle.lq_volume.specs.Book.{Book, IsBook}
use Rattle.lq_board.specs.Roll.{numbers}
use Rattle.lq_server.specs.Made.{IsChangeOf}
use Rattle.lq_desk_world.specs.Events.{Answer, Changed}
use Rattle.lq_script_desk.specs.Response.{Response, Answers}
use Rattle.lq_script_desk.specs.Reply.{reply_text}
use Rattle.lq_script_desk.specs.Writes.{HasTaken}
use Rattle.lq_script_lines.specs.Outcome.{ReaderLog}
use Rattle.lq_script_lines.specs.declared.run_fault.RunFault.{RunFault}
use Rattle.lq_script_lines.specs.declared.run_fault.RunFault.TheVariants.{Read, Write, Limit, Memory, Thread}
use Rattle.lq_script.specs.Asked.{Asked}
use Rattle.lq_script.specs.Reading.{AnswersScript, HasRead}

-- ---- what replies tell

-- the change that an answer tells, if it tells one: its number, and the node that it created or
-- named
abbrev pub change_in : Answer → List Applied
change_in (Changed applied) = applied ∷ []
change_in answer = []

-- the change that a reply tells, if it tells one
abbrev pub change_told : Response → List Applied
change_told (Answers slot answer) = change_in answer
change_told reply = []

-- the changes that replies tell, in order
abbrev pub changes_told : List Response → List Applied
changes_told [] = []
changes_told (reply ∷ replies) = change_told reply ++ changes_told replies

-- the texts of replies, one after another
abbrev pub replies_text : List Response → List ℕ
replies_text [] = []
replies_text (reply ∷ replies) = reply_text reply ++ replies_text replies

-- ---- the changes of a book

-- these are all changes of the book, each once, in their order: 1, 2, 3 and so on
pub record AreAllChanges (book : Book) (reported : List Applied) : Type 0 where
  pub in_order : map (λ a. a.change) reported ≡ numbers (length book.changes)
  pub each : AllByRecursion (IsChangeOf book) reported

-- ---- a whole run

-- Which changes have no reply, and which bytes of the replies the writer didn't take, after this
-- fault. Where memory was wanting, the last change may have no reply. Only where the writer failed
-- are there such bytes; memory may have been wanting before.
abbrev pub LeavesAfter : RunFault → List Applied → List ℕ → Type 0
LeavesAfter Read untold rest = (untold ≡ []) × (rest ≡ [])
LeavesAfter Write untold rest = length untold ≤ 1
LeavesAfter Limit untold rest = (untold ≡ []) × (rest ≡ [])
LeavesAfter Memory untold rest = (length untold ≤ 1) × (rest ≡ [])
LeavesAfter Thread untold rest = (untold ≡ []) × (rest ≡ [])

-- a run that succeeded leaves none of either
abbrev pub LeavesUntold : Result (Unit {0}) RunFault → List Applied → List ℕ → Type 0
LeavesUntold (Ok done) untold rest = (untold ≡ []) × (rest ≡ [])
LeavesUntold (Err fault) untold rest = LeavesAfter fault untold rest

-- All changes of this book are those that a run's replies tell, in order, and `untold` at the end.
-- What was written is the text of these replies, but for `rest` at its end. They are the replies to
-- the lines that were read. The book has the changes that these lines ask and the volume accepts.
pub record TellsAllOf (book : Book) (result : Result (Unit {0}) RunFault) (reader : ReaderLog)
    (written written' : Option (List ℕ)) : Type 0 where
  pub replies : List Response
  pub untold : List Applied
  pub rest : List ℕ
  pub asked : List Asked
  pub all : AreAllChanges book (changes_told replies ++ untold)
  pub took : HasTaken written written' (replies_text replies) rest
  pub leaves : LeavesUntold result untold rest
  pub read : HasRead result reader asked
  pub answered : AnswersScript result asked book replies

-- A run tells all changes that its server made: there is one lawful book of them, over the first
-- volume of a script.
pub record TellsAllChanges (result : Result (Unit {0}) RunFault) (reader : ReaderLog)
    (written written' : Option (List ℕ)) : Type 0 where
  pub book : Book
  pub lawful : IsBook book
  pub begins : book.start ≡ empty_state 1000000000000
  pub tells : TellsAllOf book result reader written written'
