use Rattle.std.proofs.Common.{◌≡◌, ◌++◌}
use Rattle.lq_volume_entries.proofs.attr_table.listed.Given as goal

-- the attributes so far, with those that are left
abbrev pub invariant-loop-attr : goal.invariant-loop-attr
invariant-loop-attr l = l.list.items ++ l.attr-iterator ≡ l.map.entries
