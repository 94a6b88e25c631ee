use Rattle.lq_value_pattern.proofs.MaskLemmas.{next_is}
use Rattle.lq_value_pattern.proofs.match_masks.next_ends.Goals as goal

pub returns-clause-ends : goal.returns-clause-ends
returns-clause-ends c = next_is c.args.ends c.args.mask
