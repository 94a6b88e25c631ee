use Rattle.lq_value_pattern.proofs.PatternLemmas.{fits-complete, fits-sound}
use Rattle.lq_value_pattern.proofs.laws.fits_are_splits.Goals as goal

pub returns : goal.returns
returns c = λ es cs. (fits-sound es cs, fits-complete es cs)
