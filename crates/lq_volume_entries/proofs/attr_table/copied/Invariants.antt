use Rattle.std.proofs.Common.{◌≡◌, take}
use Rattle.lq_volume_entries.proofs.attr_table.copied.Given as goal

-- the attributes so far
abbrev pub invariant-loop-pair : goal.invariant-loop-pair
invariant-loop-pair l = l.copy.items ≡ take l.pair-index l.list
