use Rattle.std.proofs.Common.{◌≡◌, take}
use Rattle.std.specs.List.{filter_map}
use Rattle.lq_volume_entries.specs.Folder.{entry_in}
use Rattle.lq_volume_entries.proofs.records.Records.entries_in.Given as goal

-- the entries of the nodes so far
abbrev pub invariant-loop-node : goal.invariant-loop-node
invariant-loop-node l =
    l.entries.items ≡ filter_map (entry_in l.self l.dir) (take l.node-index l.nodes)
