use Rattle.std.proofs.Common.{◌≡◌, ◌++◌, map}
use Rattle.std.specs.Vec.Iter.{into_iter_items}
use Rattle.lq_volume.specs.Restore.{first_fault, entry_faults, restore_faults, listed_pair}
use Rattle.lq_volume.specs.State.{State}
use Rattle.lq_volume.proofs.volume.Volume.restore.Given as goal

-- the numbers stay, the records so far with those that are left are all, and these decide
abbrev pub invariant-loop-node : goal.invariant-loop-node
invariant-loop-node l =
    record {
      shown : ◌≡◌ {A = State} l.restoring (record {
        limit = l.fn.limit;
        number = l.fn.changes;
        next = l.fn.next;
        records = l.restoring.records;
      });
      all : l.restoring.records ++ map listed_pair (into_iter_items l.node-iterator)
          ≡ map listed_pair l.fn.records.items;
      left : first_fault (entry_faults l.restoring
          (map listed_pair (into_iter_items l.node-iterator)))
          ≡ first_fault (restore_faults l.fn.limit l.fn.changes l.fn.next
          (map listed_pair l.fn.records.items));
    }
