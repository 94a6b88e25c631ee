use Rattle.std.proofs.Common.{arith, ◌≡◌, ◌+◌, length, take, drop, get_or}
use Rattle.std.proofs.lemmas.Grind.{common_steps}
use Rattle.lq_script_lines.proofs.LineLemmas.{unbroken_first}
use Rattle.lq_script_lines.proofs.ProgressLemmas.{line_taken}
use Rattle.lq_script_lines.proofs.input_pieces.run_at.Goals as goal

pub returns-clause-unbroken : goal.returns-clause-unbroken
returns-clause-unbroken c =
    rw c.split_at-2.ensures.front (unbroken_first c.split_at.result.1.now c.memchr.result
    c.min.result c.memchr.ensures (omega (arith, c.min.ensures, c.unwrap_or-count.ensures)))

pub returns-clause-stops : goal.returns-clause-stops
returns-clause-stops c = λ within room.
    let run = c.split_at-2.result.0.now in
    let is : run ≡ take (length run) (drop c.args.at c.args.piece.now) =
    grind (arith, common_steps) in
    let next : get_or c.args.piece.now (c.args.at + length run) 0 ≡ 10 =
    grind (arith, common_steps) in
    line_taken c.args.piece.now run c.args.at is within next
