use Rattle.std.proofs.lemmas.List.{take_more}
use Rattle.lq_value_pattern.proofs.MaskLemmas.{one_put, pair_put}
use Rattle.lq_value_pattern.proofs.build_masks.put_next.Goals as goal

pub returns-in-Some-clause-marked : goal.returns-in-Some-clause-marked
returns-in-Some-clause-marked c =
    pair_put c.args.items.now _ _ c.args.j c.args.chars.now c.args.masks.now
    c.put_high.new.masks c.in-Some.ensures c.put_high.ensures

pub returns-clause-marked : goal.returns-clause-marked
returns-clause-marked c =
    one_put c.args.items.now _ c.args.j c.args.chars.now c.args.masks.now
    c.put_item.new.masks (take_more c.args.items.now 0 _ c.requires.some)
    c.put_item.ensures
