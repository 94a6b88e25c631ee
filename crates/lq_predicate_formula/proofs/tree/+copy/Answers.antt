use Rattle.std.proofs.Common.{arith}
use Rattle.lq_predicate_formula.proofs.PartLemmas.{depth_le-deepest}
use Rattle.lq_predicate_formula.proofs.tree.+copy.Goals as goal

pub copy_parts-copy-requires : goal.copy_parts-copy-requires
copy_parts-copy-requires t c =
    let falls = depth_le-deepest c.args.parts.now c.loop-part.part-index c.part-item.result
    c.loop-part-test.true c.part-item.is in
    (omega (arith, falls, c.decreases), tt)
