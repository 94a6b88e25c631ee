use Rattle.std.proofs.Common.{arith}
use Rattle.std.proofs.lemmas.Bool.Decides.{nat_tests}
use Rattle.lq_volume_entries.proofs.AttributeLemmas.{value_of-drop}
use Rattle.lq_volume_entries.proofs.attr_table.find.Goals as goal

pub returns-then-same_text : goal.returns-then-same_text
returns-then-same_text c =
    let here = value_of-drop c.args.list.now c.loop-pair.pair-index c.args.attr.now
    c.pair-item.result c.loop-pair-test.true c.pair-item.is in
    grind (arith, nat_tests)

pub loop-pair-preserved : goal.loop-pair-preserved
loop-pair-preserved c =
    let here = value_of-drop c.args.list.now c.loop-pair.pair-index c.args.attr.now
    c.pair-item.result c.loop-pair-test.true c.pair-item.is in
    grind (arith, nat_tests)
