-- What a part of a run by a server has done: the changes of its seat, and the replies to them.
use Rattle.std.specs.Prelude.{◌≡◌, ℕ, ◌≤◌, List, [], ◌++◌, length, Option, Result, Ok, Err}
use Rattle.lq_volume.specs.State.{State}
use Rattle.lq_volume.specs.declared.change.Applied.{Applied}
use Rattle.lq_volume.specs.Book.{Book}
use Rattle.lq_board.specs.Token.{SeatToken}
use Rattle.lq_server_slots.specs.declared.identity.Identity.{Identity}
use Rattle.lq_server.specs.Made.{MakesMore}
use Rattle.lq_server.specs.Retired.{IsRetired}
use Rattle.lq_script_desk.specs.Response.{Response}
use Rattle.lq_script_desk.specs.Writes.{HasTaken}
use Rattle.lq_script_lines.specs.declared.run_fault.RunFault.{RunFault}
use Rattle.lq_script_lines.specs.declared.run_fault.RunFault.TheVariants.{Read, Write, Limit, Memory, Thread}
use Rattle.lq_script_lines.specs.Outcome.{ReaderLog}
use Rattle.lq_script.specs.Asked.{Asked}
use Rattle.lq_script.specs.Answers.{Answers, Replies}
use Rattle.lq_script.specs.Reading.{HasRead, Unanswered}
use Rattle.lq_script.specs.Changes.{LeavesUntold, TellsAllOf, changes_told, replies_text}

-- what a contract sees of the seat of a run
abbrev pub OwnToken : Type 0
OwnToken = SeatToken Identity

-- this many replies that tell no change were appended to a text
pub record AppendsReads (count : ℕ) (old new : List ℕ) : Type 0 where
  pub replies : List Response
  pub number : length replies ≡ count
  pub none : changes_told replies ≡ []
  pub appended : new ≡ old ++ replies_text replies

-- ---- lines that were carried out

-- where a run stands: its seat, what its writer has taken, the replies that wait for it, and the
-- slots whose reads wait
pub record SeatStanding : Type 0 where
  pub seat : OwnToken
  pub written : Option (List ℕ)
  pub waits : List ℕ
  pub slots : List ℕ

abbrev pub standing_of_seat : OwnToken → Option (List ℕ) → List ℕ → List ℕ → SeatStanding
standing_of_seat seat written waits slots =
    record { seat = seat; written = written; waits = waits; slots = slots }

-- Which changes have no reply, and which bytes of the replies the writer hasn't taken, where these
-- replies wait. Where memory was wanting, the last change may have no reply.
abbrev pub StopsBy : RunFault → List Applied → List ℕ → List ℕ → Type 0
StopsBy Read untold rest waits = ⊥
StopsBy Write untold rest waits = untold ≡ []
StopsBy Limit untold rest waits = ⊥
StopsBy Memory untold rest waits = (length untold ≤ 1) × (rest ≡ waits)
StopsBy Thread untold rest waits = ⊥

abbrev pub Stops : Result (Unit {0}) RunFault → List Applied → List ℕ → List ℕ → Type 0
Stops (Ok done) untold rest waits = (untold ≡ []) × (rest ≡ waits)
Stops (Err fault) untold rest waits = StopsBy fault untold rest waits

-- Lines that ask this were carried out: the changes made are those that the replies tell, and
-- `untold`.
pub record Carries (asked : List Asked) (result : Result (Unit {0}) RunFault)
    (old new : SeatStanding) : Type 0 where
  pub replies : List Response
  pub untold : List Applied
  pub rest : List ℕ
  pub made : MakesMore old.seat new.seat (changes_told replies ++ untold)
  pub took : HasTaken old.written new.written (old.waits ++ replies_text replies) rest
  pub stops : Stops result untold rest new.waits
  pub replied : Replies asked result replies old.seat new.seat old.slots new.slots

-- ---- the end of a run

-- the replies of a run by this seat
pub record AnswersRun (result : Result (Unit {0}) RunFault) (asked : List Asked)
    (old new : OwnToken) (replies : List Response) : Type 0 where
  pub done : List Asked
  pub next : List Asked
  pub more : List Asked
  pub split : asked ≡ done ++ (next ++ more)
  pub unanswered : Unanswered result next more
  pub answers : Answers old new done next replies

-- a run by this seat: the changes that the seat made are those that the replies tell, and `untold`
pub record TellsMade (result : Result (Unit {0}) RunFault) (reader : ReaderLog) (old new : OwnToken)
    (written written' : Option (List ℕ)) : Type 0 where
  pub replies : List Response
  pub untold : List Applied
  pub rest : List ℕ
  pub asked : List Asked
  pub made : MakesMore old new (changes_told replies ++ untold)
  pub took : HasTaken written written' (replies_text replies) rest
  pub leaves : LeavesUntold result untold rest
  pub read : HasRead result reader asked
  pub answered : AnswersRun result asked old new replies

-- a run tells all changes of the server over this volume, which made so many and left that volume
pub record TellsRetired (start volume : State) (changes : ℕ)
    (result : Result (Unit {0}) RunFault) (reader : ReaderLog)
    (written written' : Option (List ℕ)) : Type 0 where
  pub known : Book
  pub retired : IsRetired start known volume changes
  pub tells : TellsAllOf retired.book result reader written written'
