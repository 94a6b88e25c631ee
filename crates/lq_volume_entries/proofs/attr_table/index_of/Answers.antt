use Rattle.std.proofs.Common.{arith, refl}
use Rattle.std.proofs.lemmas.Bool.Decides.{nat_tests}
use Rattle.std.proofs.lemmas.Option.{slice_get_read}
use Rattle.std.proofs.lemmas.Slice.Eq.{bytes_eq-Decides}
use Rattle.lq_volume_entries.proofs.AttributeLemmas.{value_of-drop}
use Rattle.lq_volume_entries.proofs.attr_table.index_of.Goals as goal

pub returns-then-same_text-clause-found : goal.returns-then-same_text-clause-found
returns-then-same_text-clause-found c =
    let same = bytes_eq-Decides c.args.attr.now c.pair-item.result.0 in
    let there = slice_get_read _ _ _ _ refl c.loop-pair-test.true c.pair-item.is in
    grind (arith, nat_tests)

pub loop-pair-preserved : goal.loop-pair-preserved
loop-pair-preserved c =
    let here = value_of-drop c.args.list.now c.loop-pair.pair-index c.args.attr.now
    c.pair-item.result c.loop-pair-test.true c.pair-item.is in
    record { index = grind (arith, nat_tests); left = grind (arith, nat_tests) }
