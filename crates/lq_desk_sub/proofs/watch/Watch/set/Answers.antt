use Rattle.std.proofs.Common.{arith}
use Rattle.lq_desk_sub.proofs.WatchLemmas.{watch-here, watch-others}
use Rattle.lq_desk_sub.proofs.watch.Watch.set.Goals as goal

pub returns-clause-here : goal.returns-clause-here
returns-clause-here c =
    let i = c.loop-ending.invariant in
    watch-here c.passed_changes_tell_nothing.ensures c.bare_creates_tell_nothing.ensures
    c.args.sub.now.held.query c.args.sub.now.held.flags c.args.self.now c.loop-ending.self
    c.args.slot.index
    c.loop-ending.ending (omega (arith, c.loop-ending-test.false)) i.all i.creates i.writes i.attrs

pub returns-clause-others : goal.returns-clause-others
returns-clause-others c =
    let i = c.loop-ending.invariant in
    watch-others c.passed_changes_tell_nothing.ensures c.bare_creates_tell_nothing.ensures
    c.args.sub.now.held.query c.args.sub.now.held.flags c.args.self.now c.loop-ending.self
    c.args.slot.index
    c.loop-ending.ending (omega (arith, c.loop-ending-test.false)) i.all i.creates i.writes i.attrs
