use Rattle.std.proofs.Common.{◌≡◌, take}
use Rattle.lq_update.specs.Locations.{entries_of}
use Rattle.lq_update.proofs.locations.locations_of.Given as goal

-- the entries so far
abbrev pub invariant-loop-entry : goal.invariant-loop-entry
invariant-loop-entry l = entries_of l.locations.entries ≡ take l.entry-index l.entries
