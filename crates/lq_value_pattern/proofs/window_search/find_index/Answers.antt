use Rattle.std.proofs.Common.{arith}
use Rattle.lq_value_pattern.proofs.SeekLemmas.{first_more, none_more}
use Rattle.lq_value_pattern.proofs.window_search.find_index.Goals as goal

pub returns-in-Some : goal.returns-in-Some
returns-in-Some c =
    first_more c.args.elements.now c.args.text.now c.from_index.result.now c.loop-start.start
    c.min-places.result c.in-Some.index (omega arith) c.loop-start.invariant c.from_index.ensures
    c.in-Some.ensures

pub loop-start-preserved : goal.loop-start-preserved
loop-start-preserved c =
    none_more c.args.elements.now c.args.text.now c.from_index.result.now c.loop-start.start
    c.min-places.result c.loop-start.invariant c.from_index.ensures c.in_default.ensures
