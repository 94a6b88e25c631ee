use Rattle.std.proofs.Common.{arith}
use Rattle.std.proofs.lemmas.List.{take_rest}
use Rattle.lq_value_pattern.proofs.MaskLemmas.{put_join}
use Rattle.lq_value_pattern.proofs.build_masks.put_items.Goals as goal

pub loop-i-preserved : goal.loop-i-preserved
loop-i-preserved c =
    let items = c.args.items.now in
    let i = c.loop-i.i in
    let next = rw (take_rest items i) at c.put_next-i.ensures.marked in
    record {
      within = omega arith;
      marked = put_join items c.args.j c.args.chars.now c.args.masks.now c.loop-i.masks
          c.put_next-i.new.masks i c.put_next-i.result c.loop-i.invariant.marked next;
    }
