-- The bytes by which the lines of an input are handed on, and what a read hands on.
use Rattle.std.specs.Prelude.{◌≡◌, ◌<◌, ◌≤◌, ℕ, List, [], ◌∷◌, ◌++◌, length, take, Bool, true, false, Option, Result, Ok, Err, get_or}
use Rattle.std.specs.Io.KnownBytes.{Consumes, IsAtEnd, Keeps}
use Rattle.std.specs.List.{AllByRecursion}
use Rattle.lq_script_lines.specs.declared.intake.Intake.{Intake}
use Rattle.lq_script_lines.specs.Lines.{IsUnbroken, Line, long, empty, whole, ended_lines, line_of, lines_of}
use Rattle.lq_script_lines.specs.Output.{IsWithinInput}
use Rattle.lq_script_lines.specs.Progress.{HasCome}
use Rattle.lq_script_lines.specs.declared.run_fault.RunFault.{RunFault}
use Rattle.lq_script_lines.specs.declared.run_fault.RunFault.TheVariants.{Read, Write, Limit, Memory, Thread}

-- ---- lines that are handed on

-- a line as it is handed on, with LF; LF alone is one that is too long, and an empty line isn't
-- handed on
abbrev pub handed : Line → List ℕ
handed long = 10 ∷ []
handed empty = []
handed (whole bytes) = bytes ++ 10 ∷ []

-- lines, one after another
abbrev pub handed_all : List (List ℕ) → List ℕ
handed_all [] = []
handed_all (bytes ∷ lines) = handed (line_of bytes) ++ handed_all lines

-- the lines that come in `to` after those of `from` were handed on
pub record Hands (from to : List (List ℕ)) (old new : List ℕ) : Type 0 where
  pub lines : List (List ℕ)
  pub split : to ≡ from ++ lines
  pub unbroken : AllByRecursion IsUnbroken lines
  pub text : new ≡ old ++ handed_all lines

-- the lines that LF ended in later bytes were handed on
abbrev pub HandsEnded : List ℕ → List ℕ → List ℕ → List ℕ → Type 0
HandsEnded given given' old new = Hands (ended_lines given) (ended_lines given') old new

-- a byte of this piece is too much: the lines that LF ended before it were handed on
pub record PassesIn (given piece old new : List ℕ) : Type 0 where
  pub count : ℕ
  pub follows : count < length piece
  pub hands : HandsEnded given (given ++ take count piece) old new
  pub within : IsWithinInput (given ++ take count piece)
  pub passes : ¬ IsWithinInput ((given ++ take count piece) ++ get_or piece count 0 ∷ [])

-- the lines that LF ended in a part of this piece were handed on
pub record HandsPart (given piece old new : List ℕ) : Type 0 where
  pub count : ℕ
  pub within : count ≤ length piece
  pub hands : HandsEnded given (given ++ take count piece) old new

-- ---- a read

-- after a piece of an input
pub record GoesOn (given : List ℕ) (left left' : Option (List ℕ)) (intake : Intake)
    (text : List ℕ) : Type 0 where
  pub piece : List ℕ
  pub consumed : Consumes left left' piece
  pub come : HasCome (given ++ piece) intake
  pub hands : HandsEnded given (given ++ piece) [] text

-- at the end of an input, where a last line without LF counts
pub record Finishes (given : List ℕ) (left left' : Option (List ℕ)) (text : List ℕ) : Type 0 where
  pub consumed : Consumes left left' []
  pub at_end : IsAtEnd left'
  pub within : IsWithinInput given
  pub hands : Hands (ended_lines given) (lines_of given) [] text

-- after a fault of the reader, at a limit, and for want of memory
abbrev pub StopsReading : RunFault → List ℕ → Option (List ℕ) → Option (List ℕ) → Bool → List ℕ
    → Type 0
StopsReading Read given left left' failed text =
    (failed ≡ true) × Keeps left left' × IsWithinInput given × (text ≡ [])
StopsReading Write given left left' failed text = ⊥
StopsReading Limit given left left' failed text =
    (piece : List ℕ) × (Consumes left left' piece × PassesIn given piece [] text)
StopsReading Memory given left left' failed text =
    (piece : List ℕ) × (Consumes left left' piece × HandsPart given piece [] text)
StopsReading Thread given left left' failed text = ⊥

-- What a read does after these bytes of an input. It handed on this text.
abbrev pub ReadsOn : Result Bool RunFault → List ℕ → Option (List ℕ) → Option (List ℕ) → Bool
    → Intake → List ℕ → Type 0
ReadsOn (Ok true) given left left' failed intake text = GoesOn given left left' intake text
ReadsOn (Ok false) given left left' failed intake text = Finishes given left left' text
ReadsOn (Err fault) given left left' failed intake text =
    StopsReading fault given left left' failed text
