use Rattle.std.proofs.Common.{◌≡◌, map}
use Rattle.std.specs.Vec.Iter.{into_iter_items}
use Rattle.lq_volume_entries.specs.Order.{shown_pair}
use Rattle.lq_volume.specs.Restore.{first_fault, all_folder_faults}
use Rattle.lq_volume.proofs.restoring.Restoring.check_folders.Given as goal

-- the records that are left decide
abbrev pub invariant-loop-record : goal.invariant-loop-record
invariant-loop-record l =
    first_fault (all_folder_faults l.self (map shown_pair (into_iter_items l.record-iterator)))
    ≡ first_fault (all_folder_faults l.self l.self.records)
