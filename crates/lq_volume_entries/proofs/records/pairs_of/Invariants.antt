use Rattle.std.proofs.Common.{◌≡◌, map}
use Rattle.std.specs.Map.Iter.{deref_pair}
use Rattle.lq_volume_entries.specs.Order.{shown_pair}
use Rattle.lq_volume_entries.proofs.records.pairs_of.Given as goal

-- the nodes and records so far
abbrev pub invariant-loop-node : goal.invariant-loop-node
invariant-loop-node l = map shown_pair l.pairs.items ≡ map deref_pair l.yielded
