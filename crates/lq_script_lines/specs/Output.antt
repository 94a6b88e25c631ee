-- What a run over a script has read and written when it answers.
use Rattle.std.specs.Prelude.{◌≡◌, ℕ, ◌≤◌, List, [], ◌∷◌, ◌++◌, length, Option}
use Rattle.std.specs.Io.KnownBytes.{Appends, Consumes, IsAtEnd, Keeps}
use mathlib.Core.List.{IsPrefix}
use Rattle.lq_script_lines.specs.Lines.{Rules, ended_lines, lines_of, replies_to}

-- what is written for an input
abbrev pub output_of : {State : Type 0} → Rules State → State → List ℕ → List ℕ
output_of rules state bytes = replies_to rules state (lines_of bytes)

-- an input has at most 10,000,000 lines and 1,073,741,824 bytes
abbrev pub IsWithinInput : List ℕ → Type 0
IsWithinInput bytes = (length (lines_of bytes) ≤ 10000000) × (length bytes ≤ 1073741824)

-- a run that succeeded: all was read, it was within the limits, and its output was written
pub record Answered {State : Type 0} (rules : Rules State) (state : State)
    (left left' written written' : Option (List ℕ)) : Type 0 where
  pub given : List ℕ
  pub consumed : Consumes left left' given
  pub at_end : IsAtEnd left'
  pub within : IsWithinInput given
  pub appended : Appends written written' (output_of rules state given)

-- a run that stopped: what was written is a prefix of the output for what was read
pub record Stopped {State : Type 0} (rules : Rules State) (state : State)
    (left left' written written' : Option (List ℕ)) : Type 0 where
  pub given : List ℕ
  pub consumed : Consumes left left' given
  pub text : List ℕ
  pub appended : Appends written written' text
  pub front : IsPrefix text (output_of rules state given)

-- a run that stopped at a line of what was read: exactly the lines before it were answered
pub record Halted {State : Type 0} (rules : Rules State) (state : State)
    (left left' written written' : Option (List ℕ)) : Type 0 where
  pub given : List ℕ
  pub consumed : Consumes left left' given
  pub lines : List (List ℕ)
  pub next : List ℕ
  pub rest : List (List ℕ)
  pub front : lines_of given ≡ lines ++ next ∷ rest
  pub appended : Appends written written' (replies_to rules state lines)

-- a run that never began: nothing was read and nothing written
abbrev pub NotBegun : (left left' written written' : Option (List ℕ)) → Type 0
NotBegun left left' written written' = (left' ≡ left) × Keeps written written'

-- a run that stopped between two reads: exactly the lines that LF ended were answered
pub record Ended {State : Type 0} (rules : Rules State) (state : State)
    (left left' written written' : Option (List ℕ)) : Type 0 where
  pub given : List ℕ
  pub consumed : Consumes left left' given
  pub within : IsWithinInput given
  pub appended : Appends written written' (replies_to rules state (ended_lines given))

-- A run that stopped at a limit: it read at least one byte beyond the limits. Of the input within
-- them, exactly the lines that LF ended were answered.
pub record Passed {State : Type 0} (rules : Rules State) (state : State)
    (left left' written written' : Option (List ℕ)) : Type 0 where
  pub given : List ℕ
  pub next : ℕ
  pub rest : List ℕ
  pub consumed : Consumes left left' (given ++ next ∷ rest)
  pub within : IsWithinInput given
  pub passes : ¬ IsWithinInput (given ++ next ∷ [])
  pub appended : Appends written written' (replies_to rules state (ended_lines given))
