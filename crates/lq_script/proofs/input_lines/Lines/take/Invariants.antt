use Rattle.std.proofs.Common.{◌≤◌, ◌-◌, ◌++◌, ℕ, List, length, take}
use Rattle.lq_script_lines.specs.Progress.{HasCome}
use Rattle.lq_script.specs.Input.{HandsEnded}
use Rattle.lq_script.proofs.input_lines.Lines.take.Given as goal

abbrev pub invariant-loop-at : goal.invariant-loop-at
invariant-loop-at l = record {
  within : l.at ≤ length l.piece;
  come : (given : List ℕ) → HasCome given l.fn.self.intake
      → HasCome (given ++ take l.at l.piece) l.self.intake;
  hands : (given : List ℕ) → HasCome given l.fn.self.intake
      → HandsEnded given (given ++ take l.at l.piece) l.fn.self.given.items l.self.given.items;
}

abbrev pub decreases-loop-at : goal.decreases-loop-at
decreases-loop-at l = length l.piece - l.at
