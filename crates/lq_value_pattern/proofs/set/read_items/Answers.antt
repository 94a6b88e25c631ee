use Rattle.lq_value_pattern.specs.Sign.{signs_of}
use Rattle.lq_value_pattern.proofs.ReadingLemmas.{items_end, items_more, items_stuck}
use Rattle.lq_value_pattern.proofs.WrittenLemmas.{item_shrinks}
use Rattle.lq_value_pattern.proofs.set.read_items.Goals as goal

pub returns-in-End : goal.returns-in-End
returns-in-End c = items_end _ _ _ _ c.loop-rest.invariant.so_far c.in-End.ensures.first

pub loop-rest-smaller : goal.loop-rest-smaller
loop-rest-smaller c = item_shrinks (signs_of c.loop-rest.left.now) c.in-Has.item
    (signs_of c.in-Has.rest.now) c.in-Has.ensures.first

pub loop-rest-preserved : goal.loop-rest-preserved
loop-rest-preserved c = record {
  text = c.in-Has.ensures.text;
  so_far = items_more _ _ _ _ _ _ c.loop-rest.invariant.so_far c.in-Has.ensures.first
      c.with_item-items.ensures;
}

pub returns-in-Faulty : goal.returns-in-Faulty
returns-in-Faulty c = items_stuck _ _ _ c.loop-rest.invariant.so_far c.in-Faulty.ensures.first
