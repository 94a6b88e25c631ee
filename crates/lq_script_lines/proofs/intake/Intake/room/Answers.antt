-- At a limit there is no room, and one byte more is too much.
use Rattle.std.proofs.Common.{inl, inr}
use Rattle.lq_script_lines.proofs.ProgressLemmas.{come_passes}
use Rattle.lq_script_lines.proofs.intake.Intake.room.Goals as goal
use Rattle.lq_script_lines.proofs.intake.Intake.room.Goals.{then-self-ge-MAX_LINES-via-then-self-ge-MAX_LINES, then-self-ge-MAX_LINES-via-else-self-ge-MAX_LINES+then-self-ge-MAX_BYTES}

pub returns-then-self-ge-MAX_LINES-clause-none : goal.returns-then-self-ge-MAX_LINES-clause-none
returns-then-self-ge-MAX_LINES-clause-none c = λ is given h next.
    come_passes h next (elim c.then-self-ge-MAX_LINES.branch [
      | then-self-ge-MAX_LINES-via-then-self-ge-MAX_LINES w ↦ inl w.if-self-ge-MAX_LINES.true
      | then-self-ge-MAX_LINES-via-else-self-ge-MAX_LINES+then-self-ge-MAX_BYTES w ↦
          inr w.if-self-ge-MAX_BYTES.true
    ])
