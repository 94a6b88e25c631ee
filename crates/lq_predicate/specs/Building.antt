-- What the code's machine has built of what the specified one has read.
use Rattle.std.specs.Prelude.{◌≡◌, ◌≤◌, ℕ, List, map, reverse, length, Option, Some, Result, Ok, Err, ⊤}
use Rattle.lq_predicate_formula.specs.Faults.{IsFaulty, IsReading}
use Rattle.lq_predicate_formula.specs.Machine.{Frame, Expected, operand, after_attr, after_op, after_operand, MachineState, step_at, weight}
use Rattle.lq_predicate_formula.specs.MachineReading.{finished, pattern_fault, offset_at}
use Rattle.lq_predicate_formula.specs.Query.{Query}
use Rattle.lq_predicate_formula.specs.Tokens.{Token, Placed}
use Rattle.lq_predicate.specs.Made.{IsMadeOf}
use Rattle.lq_predicate.specs.declared.machine.Expected.{Expected as Expects}
use Rattle.lq_predicate.specs.declared.machine.Expected.TheVariants as expects
use Rattle.lq_predicate.specs.declared.machine.Frame.{Frame as Built}
use Rattle.lq_predicate.specs.declared.machine.Frames.{Frames}
use Rattle.lq_predicate.specs.declared.stop.Stop.{Stop}
use Rattle.lq_predicate.specs.declared.stop.Stop.TheVariants.{Fault, Failed}

module _ {P : Type 0} (parts : List Query → P) where
  abbrev pub built_frame : Frame → Built P
  built_frame f =
      record { or_parts = parts f.or_parts; and_parts = parts f.and_parts; bangs = f.bangs }

  -- The frames of the state are built; the innermost one below is the last. It nests 64 deep with
  -- its room.
  pub record HasBuilt (frames : Frames P) (s : MachineState) : Type 0 where
    pub below : reverse frames.below.items ≡ map built_frame s.below
    pub top : frames.top ≡ built_frame s.top
    pub room : frames.room ≡ s.room
    pub light : weight s ≤ 64

module _ {N : Type 0} (named : List ℕ → N) where
  abbrev pub built_expected : Expected → Expects N
  built_expected operand = expects.Operand
  built_expected (after_attr a) = expects.AfterAttr (named a)
  built_expected (after_op a o) = expects.AfterOp (named a) o
  built_expected after_operand = expects.AfterOperand

  module _ {P : Type 0} (parts : List Query → P) where
    abbrev pub IsBuilt : Frames P → MachineState → Expects N → Type 0
    IsBuilt frames s next = HasBuilt parts frames s × (next ≡ built_expected s.expected)

    -- the state after the token is built, if there is one, else this is its pattern's fault
    abbrev pub IsStepAt : {E : Type 0} → Expected → MachineState → Token
        → Result (Expects N) (Stop (Option ℕ) E) → Frames P → Type 0
    IsStepAt p s t result frames =
        IsMadeOf (IsBuilt frames) (step_at p s t) (pattern_fault p t) result

-- a stop at a token with its offset in the text, which ends at `end`
abbrev pub stop_in_text : {E : Type 0} → ℕ → Placed → Stop (Option ℕ) E → Stop ℕ E
stop_in_text end t (Fault k) = Fault (offset_at end t t.token k)
stop_in_text end t (Failed e) = Failed e

-- a whole query is built of the text, which reads as it within the limits, or it has a fault here
abbrev pub IsWholeOf : {B E : Type 0} → (Query → B) → List ℕ → Result B (Stop ℕ E) → Type 0
IsWholeOf part text (Ok made) =
    (q : Query) × IsReading text (finished (length text) (Some q)) × (made ≡ part q)
IsWholeOf part text (Err (Fault offset)) = IsFaulty text offset
IsWholeOf part text (Err (Failed e)) = ⊤
