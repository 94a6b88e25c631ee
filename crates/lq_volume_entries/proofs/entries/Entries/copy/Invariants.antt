use Rattle.std.proofs.Common.{◌≡◌, ◌++◌, map}
use Rattle.std.specs.Vec.Iter.{into_iter_items}
use Rattle.lq_volume_entries.specs.Order.{shown_pair}
use Rattle.lq_volume_entries.proofs.entries.Entries.copy.Given as goal

-- the records so far, with those that are left
abbrev pub invariant-loop-node : goal.invariant-loop-node
invariant-loop-node l = l.copy ++ map shown_pair (into_iter_items l.node-iterator) ≡ l.self
