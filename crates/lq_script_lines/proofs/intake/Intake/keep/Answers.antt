-- Bytes that were added to the line have come.
use Rattle.std.proofs.Common.{◌≡◌, ◌+◌, ◌<◌, ◌≤◌, ◌++◌, ℕ, List, length, Result, Ok, Err, OnOk}
use Rattle.lq_script_lines.specs.declared.intake.Intake.{Intake}
use Rattle.lq_script_lines.specs.declared.run_fault.RunFault.{RunFault}
use Rattle.lq_script_lines.specs.Lines.{IsUnbroken}
use Rattle.lq_script_lines.specs.Progress.{HasCome, IsKeptLine}
use Rattle.lq_script_lines.proofs.ProgressLemmas.{come_run}
use Rattle.lq_script_lines.proofs.intake.Intake.keep.Goals as goal

-- where bytes were added, they have come
added : (r : Result (Unit {0}) RunFault) (old new : Intake) (run : List ℕ) → IsUnbroken run
    → OnOk r ((before : List ℕ) → IsKeptLine before old.long old.line.items
    → IsKeptLine (before ++ run) new.long new.line.items)
    → new.lines ≡ old.lines → OnOk r (new.bytes ≡ old.bytes + length run)
    → old.lines < 10000000 → old.bytes + length run ≤ 1073741824
    → OnOk r ((given : List ℕ) → HasCome given old → HasCome (given ++ run) new)
added (Ok done) old new run u kept lines bytes below_lines below_bytes = λ given h.
    come_run h run u (kept _ h.kept) lines bytes below_lines below_bytes
added (Err e) old new run u kept lines bytes below_lines below_bytes = tt

pub returns-clause-come : goal.returns-clause-come
returns-clause-come c = let says = c.add_to_line.ensures in
    added c.add_to_line.result c.args.self.now c.add_to_line.new.self c.args.run.now
    c.requires.unbroken says.ok says.lines says.bytes c.requires.lines c.requires.bytes
