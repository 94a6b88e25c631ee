-- The progress of a run over a script.
use Rattle.std.specs.Prelude.{◌≡◌, ◌<◌, ◌≤◌, ◌⊎◌, ℕ, List, [], ◌∷◌, ◌++◌, Bool, true, false, length, take, get_or, Option, Result, OnOk, OnErr, IsErrOf}
use Rattle.std.specs.Io.KnownBytes.{Appends}
use Rattle.lq_script_lines.specs.declared.intake.Intake.{Intake}
use mathlib.Core.List.{IsPrefix}
use Rattle.lq_script_lines.specs.Lines.{Rules, ended_lines, line_of, lines_of, replies_to, state_after, unended_line}
use Rattle.lq_script_lines.specs.Output.{IsWithinInput, output_of}
use Rattle.lq_script_lines.specs.declared.run_fault.RunFault.{RunFault}
use Rattle.lq_script_lines.specs.declared.run_fault.RunFault.TheVariants.{Limit, Memory, Read, Thread, Write}

-- what is kept of a line in progress: its bytes, or only that it is too long
abbrev pub IsKeptLine : List ℕ → Bool → List ℕ → Type 0
IsKeptLine bytes true line = 65536 < length bytes
IsKeptLine bytes false line = (bytes ≡ line) × (length line ≤ 65536)

-- These bytes have come, and are within the limits. Their bytes and the lines that LF ended are
-- counted, and the line in progress is kept.
pub record HasCome (given : List ℕ) (intake : Intake) : Type 0 where
  pub lines : intake.lines ≡ length (ended_lines given)
  pub bytes : intake.bytes ≡ length given
  pub kept : IsKeptLine (unended_line given) intake.long intake.line.items
  pub within : IsWithinInput given

-- the state after several lines
abbrev pub state_after_all : {State : Type 0} → Rules State → State → List (List ℕ) → State
state_after_all rules state [] = state
state_after_all rules state (bytes ∷ lines) =
    state_after_all rules (state_after rules state (line_of bytes)) lines

-- the start of a run: the state, and what was written before
pub record Began (State : Type 0) : Type 0 where
  pub state : State
  pub written : Option (List ℕ)

-- the invariant of a run after an input: its lines are answered, and their replies are written
-- except for those in `out`
pub record RunStands {State : Type 0} (rules : Rules State) (began : Began State)
    (given : List ℕ) (written : Option (List ℕ)) (state : State) (intake : Intake) (out : List ℕ)
    : Type 0 where
  pub come : HasCome given intake
  pub text : List ℕ
  pub answered : state ≡ state_after_all rules began.state (ended_lines given)
  pub appended : Appends began.written written text
  pub due : text ++ out ≡ replies_to rules began.state (ended_lines given)

-- a prefix of the output for an input is what was written and then `out`
pub record Fronts {State : Type 0} (rules : Rules State) (began : Began State)
    (given : List ℕ) (written : Option (List ℕ)) (out : List ℕ) : Type 0 where
  pub text : List ℕ
  pub appended : Appends began.written written text
  pub front : IsPrefix (text ++ out) (replies_to rules began.state (lines_of given))

-- the lines of an input before one that isn't answered: their replies are what was written and
-- then `out`
pub record Halts {State : Type 0} (rules : Rules State) (began : Began State)
    (given : List ℕ) (written : Option (List ℕ)) (out : List ℕ) : Type 0 where
  pub lines : List (List ℕ)
  pub next : List ℕ
  pub rest : List (List ℕ)
  pub front : lines_of given ≡ lines ++ next ∷ rest
  pub text : List ℕ
  pub appended : Appends began.written written text
  pub due : text ++ out ≡ replies_to rules began.state lines

-- a limit was reached in a piece: the invariant holds before it, and the byte that follows is too
-- much
pub record Meets {State : Type 0} (rules : Rules State) (began : Began State)
    (given piece : List ℕ) (written : Option (List ℕ)) (state : State) (intake : Intake)
    (out : List ℕ) : Type 0 where
  pub count : ℕ
  pub follows : count < length piece
  pub stands : RunStands rules began (given ++ take count piece) written state intake out
  pub passes : ¬ IsWithinInput ((given ++ take count piece) ++ get_or piece count 0 ∷ [])

-- these bytes keep the invariant, wherever the run began
abbrev pub Goes : {State : Type 0} → Rules State → List ℕ
    → Option (List ℕ) → State → Intake → List ℕ
    → Option (List ℕ) → State → Intake → List ℕ → Type 0
Goes {State} rules bytes written state intake out written' state' intake' out' =
    (began : Began State) → (given : List ℕ) → RunStands rules began given written state intake out
    → RunStands rules began (given ++ bytes) written' state' intake' out'

-- a fault in these bytes leaves a prefix of the output
abbrev pub Leaves : {State : Type 0} → Rules State → List ℕ
    → Option (List ℕ) → State → Intake → List ℕ
    → Option (List ℕ) → List ℕ → Type 0
Leaves {State} rules bytes written state intake out written' out' =
    (began : Began State) → (given : List ℕ) → RunStands rules began given written state intake out
    → Fronts rules began (given ++ bytes) written' out'

-- where memory runs out in these bytes, the lines before one of them are answered
abbrev pub HaltsIn : {State : Type 0} → Rules State → List ℕ
    → Option (List ℕ) → State → Intake → List ℕ
    → Option (List ℕ) → List ℕ → Type 0
HaltsIn {State} rules bytes written state intake out written' out' =
    (began : Began State) → (given : List ℕ) → RunStands rules began given written state intake out
    → Halts rules began (given ++ bytes) written' out'

-- this piece reaches a limit
abbrev pub MeetsLimit : {State : Type 0} → Rules State → List ℕ
    → Option (List ℕ) → State → Intake → List ℕ
    → Option (List ℕ) → State → Intake → List ℕ → Type 0
MeetsLimit {State} rules piece written state intake out written' state' intake' out' =
    (began : Began State) → (given : List ℕ) → RunStands rules began given written state intake out
    → Meets rules began given piece written' state' intake' out'

-- the end of an input writes the whole output, wherever the run began
abbrev pub Completes : {State : Type 0} → Rules State
    → Option (List ℕ) → State → Intake → List ℕ → Option (List ℕ) → Type 0
Completes {State} rules written state intake out written' =
    (began : Began State) → (given : List ℕ) → RunStands rules began given written state intake out
    → Appends began.written written' (output_of rules began.state given)

-- a fault at the end of an input leaves a prefix of the output
abbrev pub LeavesAtEnd : {State : Type 0} → Rules State
    → Option (List ℕ) → State → Intake → List ℕ → Option (List ℕ) → Type 0
LeavesAtEnd {State} rules written state intake out written' =
    (began : Began State) → (given : List ℕ) → RunStands rules began given written state intake out
    → Fronts rules began given written' []

-- where memory runs out at the end of an input, the lines before the last are answered
abbrev pub HaltsAtEnd : {State : Type 0} → Rules State
    → Option (List ℕ) → State → Intake → List ℕ → Option (List ℕ) → Type 0
HaltsAtEnd {State} rules written state intake out written' =
    (began : Began State) → (given : List ℕ) → RunStands rules began given written state intake out
    → Halts rules began given written' []

-- what a run is at between two pieces: the writer, the responder's state, the input so far and the
-- replies that wait
pub record Standing (State : Type 0) : Type 0 where
  pub written : Option (List ℕ)
  pub failed : Bool
  pub stalled : Bool
  pub state : State
  pub intake : Intake
  pub out : List ℕ

abbrev pub standing_of : {State : Type 0} → Option (List ℕ) → Bool → Bool → State → Intake → List ℕ
    → Standing State
standing_of written failed stalled state intake out = record {
  written = written;
  failed = failed;
  stalled = stalled;
  state = state;
  intake = intake;
  out = out;
}

-- A piece that was taken keeps the invariant, and the writer works as before. A fault leaves a
-- prefix of the output, the limit the answers up to it, and a want of memory those to whole lines.
-- A fault of the writer has its cause in this piece.
pub record TakesPiece {State : Type 0} (rules : Rules State) (piece : List ℕ)
    (result : Result (Unit {0}) RunFault) (old new : Standing State) : Type 0 where
  pub ok : OnOk result (Goes rules piece old.written old.state old.intake old.out
      new.written new.state new.intake new.out)
  pub works : OnOk result ((new.failed ≡ old.failed) × (new.stalled ≡ old.stalled))
  pub err : OnErr result
      (Leaves rules piece old.written old.state old.intake old.out new.written new.out)
  pub limit : IsErrOf result Limit → MeetsLimit rules piece
      old.written old.state old.intake old.out new.written new.state new.intake new.out
  pub memory : IsErrOf result Memory → HaltsIn rules piece
      old.written old.state old.intake old.out new.written new.out
  pub memory_works : IsErrOf result Memory → (new.failed ≡ old.failed) × (new.stalled ≡ old.stalled)
  pub not_read : IsErrOf result Read → ⊥
  pub not_thread : IsErrOf result Thread → ⊥
  pub cause : IsErrOf result Write → (new.failed ≡ true) ⊎ (new.stalled ≡ true)
