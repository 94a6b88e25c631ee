use Rattle.std.proofs.Common.{◌<◌, length, arith}
use Rattle.std.proofs.lemmas.List.{map_push, take_more, take_all}
use Rattle.lq_desk.proofs.RunLemmas.{run-more}
use Rattle.lq_desk.proofs.desk.Desk.run.Goals as goal

pub loop-event-preserved : goal.loop-event-preserved
loop-event-preserved c =
    let l = c.loop-event in
    let here : l.event-index < length c.args.events.now = omega arith in
    let at = take_more c.args.events.now l.event-index c.event-item.result here in
    record {
      count = omega (arith, c.push_reserved.ensures.len, l.invariant.count);
      room = omega (arith, c.push_reserved.ensures.capacity, l.invariant.room);
      run = rw (c.push_reserved.ensures.items, at, ← c.event-item.is, map_push)
          (run-more _ _ _ _ _ _ _ l.invariant.run c.event-reply.ensures.world);
    }

pub returns-clause-run : goal.returns-clause-run
returns-clause-run c =
    let all = take_all c.loop-event.event-index c.args.events.now
    (omega (arith, c.loop-event-test.false)) in
    rw all at c.loop-event.invariant.run

pub returns-clause-readers : goal.returns-clause-readers
returns-clause-readers c = c.readers_are_told.ensures _ _ _ _ (returns-clause-run c)
