use Rattle.std.proofs.Common.{◌+◌}
use Rattle.lq_board.specs.Slot.{slot_at}
use Rattle.lq_server_slots.proofs.CommitLemmas.{served_filled}
use Rattle.lq_server_slots.proofs.SlotLemmas.{taken_filled, to_fill}
use Rattle.lq_server_slots.proofs.MarkLemmas.{mark_covers-same}
use Rattle.lq_server_slots.proofs.slots.FillVisitSubscriptionUnit.visit.Goals as goal

pub returns-clause-did : goal.returns-clause-did
returns-clause-did g c =
    let s = c.args.item.now in
    let t = c.fill.new.slot in
    let f = c.fill.ensures in
    record {
      serves = record {
        taken = taken_filled s t _ _ (to_fill s _ _ c.requires.taken) f.stands f.alike f.taken
            f.stuck;
        served = served_filled s t _ c.requires.noticed f.alike f.stuck;
        asks = f.alike.asks;
        query = (f.alike.held.query, f.alike.held.flags);
        mark = mark_covers-same _ s.sub.held.mark t.sub.held.mark f.alike.held.mark;
      };
      puts = f.puts (slot_at c.args.self.now.keeper.now.slots (c.args._slot.index + 1));
    }
