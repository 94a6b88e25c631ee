use Rattle.lq_value_pattern.proofs.MaskLemmas.{put_hit}
use Rattle.lq_value_pattern.proofs.build_masks.put_bit.Goals as goal

pub returns-then-hit : goal.returns-then-hit
returns-then-hit c = rw c.if-hit.true (put_hit c.args.j c.args.mask c.requires)
