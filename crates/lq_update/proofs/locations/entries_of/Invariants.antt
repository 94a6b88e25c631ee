use Rattle.std.proofs.Common.{◌≡◌, map}
use Rattle.std.specs.Map.Iter.{deref_pair}
use Rattle.lq_update.specs.Locations.{entries_of}
use Rattle.lq_update.proofs.locations.entries_of.Given as goal

-- the entries of the locations so far
abbrev pub invariant-loop-node : goal.invariant-loop-node
invariant-loop-node l = l.entries.items ≡ entries_of (map deref_pair l.yielded)
