-- The LF has come, and the next line is empty.
use Rattle.std.proofs.Common.{arith, refl}
use Rattle.lq_script_lines.proofs.ProgressLemmas.{come_line}
use Rattle.lq_script_lines.proofs.intake.Intake.end_line.Goals as goal

pub returns-clause-come : goal.returns-clause-come
returns-clause-come g c = λ given h.
    let answered = c.in_ok-answer_with.ensures in
    come_line h c.args.run.now c.requires.unbroken refl c.clear.ensures.items
    (omega (arith, answered.lines)) (omega (arith, answered.bytes))
    c.requires.lines c.requires.bytes
