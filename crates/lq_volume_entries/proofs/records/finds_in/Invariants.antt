use Rattle.std.proofs.Common.{◌≡◌, map, filter}
use Rattle.std.specs.Map.Iter.{deref_pair}
use Rattle.lq_volume_entries.specs.Record.{entry_of}
use Rattle.lq_volume_entries.proofs.records.finds_in.Given as goal

-- the entries of the records so far that pass
abbrev pub invariant-loop-node : goal.invariant-loop-node
invariant-loop-node g l = l.finds.items
    ≡ map entry_of (filter (λ e. g.T.RecordFilter.picks l.test e.1) (map deref_pair l.yielded))
