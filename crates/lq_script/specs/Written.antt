-- What the program writes to its output and to standard error.
use Rattle.std.specs.Prelude.{◌≡◌, ◌⊎◌, ℕ, List, [], ◌∷◌, ◌++◌, Option, Bool, true, false, codes}
use Rattle.std.specs.Fmt.{decimal}
use Rattle.std.specs.Io.KnownBytes.{Appends}
use Rattle.lq_predicate.specs.Query.{Query}
use Rattle.lq_predicate.specs.Faults.{Reads}
use Rattle.lq_predicate.specs.Canonical.{canonical}
use mathlib.Core.List.{IsPrefix}
use Rattle.lq_script_lines.specs.Output.{Ended, Halted, NotBegun, Passed}
use Rattle.lq_script_lines.specs.declared.run_fault.RunFault.{RunFault}
use Rattle.lq_script_lines.specs.declared.run_fault.RunFault.TheVariants.{Read, Write, Limit, Memory, Thread}
use Rattle.lq_script_desk.specs.Script.{script_session, world_rules}

-- a text and LF
abbrev pub line_with : List ℕ → List ℕ
line_with text = text ++ 10 ∷ []

-- the line on standard error for a fault
abbrev pub fault_line : RunFault → List ℕ
fault_line Read = line_with (codes "lq: read fault")
fault_line Write = line_with (codes "lq: write fault")
fault_line Limit = line_with (codes "lq: input too long")
fault_line Memory = line_with (codes "lq: no memory")
fault_line Thread = line_with (codes "lq: no thread")

-- the line for a formula that is refused at this place
abbrev pub refusal_line : ℕ → List ℕ
refusal_line place = codes "lq: BadQuery at " ++ line_with (decimal place)

-- the line for any other arguments
abbrev pub usage_line : List ℕ
usage_line = line_with (codes "lq: usage")

-- a prefix of a line was written
pub record WritesFront (line : List ℕ) (written written' : Option (List ℕ)) : Type 0 where
  pub text : List ℕ
  pub appended : Appends written written' text
  pub front : IsPrefix text line

-- a line was written, or a prefix of it where the device failed or accepted none of some bytes
abbrev pub WritesOrFails : List ℕ → Option (List ℕ) → Option (List ℕ) → Bool → Bool → Type 0
WritesOrFails line written written' failed stalled = Appends written written' line
    ⊎ (WritesFront line written written' × ((failed ≡ true) ⊎ (stalled ≡ true)))

-- the formula reads, and its canonical text and LF were written
pub record Prints (formula : List ℕ) (written written' : Option (List ℕ)) : Type 0 where
  pub query : Query
  pub reads : Reads formula query
  pub appended : Appends written written' (line_with (canonical query))

-- the formula reads, and a prefix of its canonical text and LF was written
pub record PrintsFront (formula : List ℕ) (written written' : Option (List ℕ)) : Type 0 where
  pub query : Query
  pub reads : Reads formula query
  pub appended : WritesFront (line_with (canonical query)) written written'

-- What each fault says. Read: the reader failed, and exactly the lines ended by LF are answered.
-- Write: the writer failed, or accepted none of some bytes. Limit: a limit was reached, and exactly
-- the lines before it that LF ended are answered. Memory: the reader hasn't failed, each write took
-- some bytes, and exactly the lines before one are answered, or nothing was read and nothing
-- written. No thread is started.
abbrev pub IsRunFault : RunFault → Option (List ℕ) → Option (List ℕ) → Bool
    → Option (List ℕ) → Option (List ℕ) → Bool → Bool → Type 0
IsRunFault Read left left' fails written written' failed stalled =
    (fails ≡ true) × Ended world_rules script_session left left' written written'
IsRunFault Write left left' fails written written' failed stalled =
    (failed ≡ true) ⊎ (stalled ≡ true)
IsRunFault Limit left left' fails written written' failed stalled =
    Passed world_rules script_session left left' written written'
IsRunFault Memory left left' fails written written' failed stalled =
    ((fails ≡ false) × (stalled ≡ false))
    × (Halted world_rules script_session left left' written written'
    ⊎ NotBegun left left' written written')
IsRunFault Thread left left' fails written written' failed stalled = ⊥
