use Rattle.std.proofs.Common.{◌∙◌}
use Rattle.lq_value_pattern.proofs.StarredLemmas.{fits-text}
use Rattle.lq_value_pattern.proofs.plain.fits_plain.Goals as goal

pub returns : goal.returns
returns c = c.eq.ensures ∙ fits-text c.args.plain.now c.args.text.now c.utf8.plain c.utf8.text
