-- How the lines of an input grow, and how they end.
use Rattle.lq_script_lines.proofs.LineLemmas.{ended_lf, ended_run, lines_all, lines_last, unended_lf, unended_run, unended_unbroken}
use Rattle.lq_script_lines.proofs.input_pieces.lines_grow.Goals as goal

pub returns-clause-grow : goal.returns-clause-grow
returns-clause-grow c =
    record { ended = ended_lf; begun = unended_lf; same = ended_run; added = unended_run }

pub returns-clause-end : goal.returns-clause-end
returns-clause-end c = record { unbroken = unended_unbroken; all = lines_all; last = lines_last }
