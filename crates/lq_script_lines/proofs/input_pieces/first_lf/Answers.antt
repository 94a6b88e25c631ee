-- A text is cut at its first LF, if there is one.
use Rattle.lq_script_lines.proofs.LineLemmas.{none_ended, some_ended}
use Rattle.lq_script_lines.proofs.input_pieces.first_lf.Goals as goal

pub returns-clause-some : goal.returns-clause-some
returns-clause-some c = some_ended c.args.text.now c.memchr.result c.memchr.ensures

pub returns-clause-none : goal.returns-clause-none
returns-clause-none c = none_ended c.args.text.now c.memchr.result c.memchr.ensures
