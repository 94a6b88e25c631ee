use Rattle.lq_value_pattern.proofs.MaskLemmas.{flip_is}
use Rattle.lq_value_pattern.proofs.build_masks.flip_bit.Goals as goal

pub returns : goal.returns
returns c = flip_is c.args.j c.args.mask c.requires
