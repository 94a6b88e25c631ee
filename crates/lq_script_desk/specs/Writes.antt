-- What a writer took of the replies that were put for it.
use Rattle.std.specs.Prelude.{◌≡◌, ◌⊎◌, ℕ, List, [], ◌++◌, Option, Result, Ok, Err}
use Rattle.std.specs.Io.KnownBytes.{Appends}
use Rattle.lq_script_lines.specs.declared.run_fault.RunFault.{RunFault}
use Rattle.lq_script_lines.specs.declared.run_fault.RunFault.TheVariants.{Read, Write, Limit, Memory, Thread}

-- a writer took these bytes, but for a rest of them
pub record HasTaken (written written' : Option (List ℕ)) (bytes rest : List ℕ) : Type 0 where
  pub taken : List ℕ
  pub appended : Appends written written' taken
  pub split : bytes ≡ taken ++ rest

-- This text was put after the replies that wait, and these were written in part or whole. Where the
-- writer failed, a rest is lost. Where there was no memory, the text wasn't put.
abbrev pub FailsToPut : RunFault → Option (List ℕ) → List ℕ → Option (List ℕ) → List ℕ → List ℕ
    → Type 0
FailsToPut Read written waits written' waits' text = ⊥
FailsToPut Write written waits written' waits' text =
    (rest : List ℕ) × HasTaken written written' (waits ++ text) rest
FailsToPut Limit written waits written' waits' text = ⊥
FailsToPut Memory written waits written' waits' text = HasTaken written written' waits waits'
FailsToPut Thread written waits written' waits' text = ⊥

abbrev pub PutsText : Result (Unit {0}) RunFault → Option (List ℕ) → List ℕ → Option (List ℕ)
    → List ℕ → List ℕ → Type 0
PutsText (Ok done) written waits written' waits' text =
    HasTaken written written' (waits ++ text) waits'
PutsText (Err fault) written waits written' waits' text =
    FailsToPut fault written waits written' waits' text

-- The fault that a run answers after this one. Unless the fault is the writer's, all that waited is
-- written, or the writer failed then.
abbrev pub ClosesAfter : RunFault → RunFault → Option (List ℕ) → List ℕ → Option (List ℕ)
    → Type 0
ClosesAfter fault answer written waits written' =
    ((answer ≡ fault) × HasTaken written written' waits [])
    ⊎ ((answer ≡ Write) × ((rest : List ℕ) × HasTaken written written' waits rest))

abbrev pub ClosesRun : RunFault → RunFault → Option (List ℕ) → List ℕ → Option (List ℕ) → Type 0
ClosesRun Read answer written waits written' = ClosesAfter Read answer written waits written'
ClosesRun Write answer written waits written' =
    (answer ≡ Write) × HasTaken written written' [] []
ClosesRun Limit answer written waits written' = ClosesAfter Limit answer written waits written'
ClosesRun Memory answer written waits written' = ClosesAfter Memory answer written waits written'
ClosesRun Thread answer written waits written' = ClosesAfter Thread answer written waits written'
