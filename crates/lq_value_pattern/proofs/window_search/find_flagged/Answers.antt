use Rattle.std.proofs.Common.{◌+◌, length, arith}
use Rattle.lq_value_pattern.proofs.FlagLemmas.{run_more, none_flagged}
use Rattle.lq_value_pattern.proofs.window_search.find_flagged.Goals as goal

pub returns-then-first-places : goal.returns-then-first-places
returns-then-first-places c =
    let es = c.args.elements.now in
    let cs = c.args.text.now in
    let more = run_more es cs c.from_index.result.now c.loop-k.flags c.match_window.new.flags
    c.loop-k.k c.count_run-count.result c.loop-k.first c.next_on-first.result
    c.count_run-count.ensures.within c.from_index.ensures (omega arith) (omega arith)
    c.loop-k.invariant.flags c.loop-k.invariant.off c.match_window.ensures
    c.next_on-first.ensures in
    none_flagged es cs c.match_window.new.flags (c.loop-k.k + c.count_run-count.result)
    (length c.args.flags.now) more.0 (rw c.if-first-places.true at more.1) (omega arith)

pub loop-k-preserved : goal.loop-k-preserved
loop-k-preserved c =
    let more = run_more c.args.elements.now c.args.text.now c.from_index.result.now
    c.loop-k.flags c.match_window.new.flags c.loop-k.k c.count_run-count.result c.loop-k.first
    c.next_on-first.result c.count_run-count.ensures.within c.from_index.ensures
    (omega arith) (omega arith) c.loop-k.invariant.flags c.loop-k.invariant.off
    c.match_window.ensures c.next_on-first.ensures in
    record {
      count = c.count_run-count.ensures.within;
      flags = more.0;
      within = omega arith;
      off = more.1;
      on = c.next_on-first.ensures.on (omega arith);
    }
