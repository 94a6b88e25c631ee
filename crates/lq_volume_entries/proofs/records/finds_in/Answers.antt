use Rattle.std.proofs.Common.{◌≡◌, arith, map, rules}
use Rattle.std.specs.Map.Iter.{deref_pair}
use Rattle.std.proofs.lemmas.Bool.Decides.{nat_tests}
use Rattle.std.proofs.lemmas.Map.Iter.{iter_end}
use Rattle.lq_volume_entries.proofs.Finds.{found-last}
use Rattle.lq_volume_entries.proofs.records.finds_in.Goals as goal

pub loop-node-preserved-in_ok-push : goal.loop-node-preserved-in_ok-push
loop-node-preserved-in_ok-push g c =
    let last = found-last (λ e. g.T.RecordFilter.picks c.args.test.now e.1) c.loop-node.yielded
    (c.in-Some.node, c.in-Some.record) in
    grind (arith, nat_tests, c.in_ok-push.ensures.items, c.in_ok-entry.ensures.value)

pub loop-node-preserved : goal.loop-node-preserved
loop-node-preserved g c =
    let last = found-last (λ e. g.T.RecordFilter.picks c.args.test.now e.1) c.loop-node.yielded
    (c.in-Some.node, c.in-Some.record) in
    grind (arith, nat_tests)

pub returns-clause-finds : goal.returns-clause-finds
returns-clause-finds g c =
    let all : map deref_pair c.loop-node.yielded ≡ c.args.stored.now.entries =
    search (rules, iter_end) in
    rw (← all) c.loop-node.invariant
