use Rattle.std.proofs.Common.{arith}
use Rattle.lq_value_pattern.specs.Element.{set_has}
use Rattle.lq_value_pattern.proofs.MaskLemmas.{marked_taken, flipped_taken}
use Rattle.lq_value_pattern.proofs.build_masks.put_set.Goals as goal

pub returns-then-negated : goal.returns-then-negated
returns-then-negated c =
    let items = c.args.items.now in
    let cs = c.args.chars.now in
    let j = c.args.j in
    let are = marked_taken (set_has items) j cs c.args.masks.now c.put_items.new.masks
    c.requires.same c.requires.off c.put_items.ensures in
    let flips = flipped_taken (set_has items) j cs c.args.masks.now c.put_items.new.masks
    c.flip.new.masks (omega arith) are c.flip.ensures in
    rw c.if-negated.true flips
