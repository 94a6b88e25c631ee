use Rattle.std.proofs.Common.{◌≡◌, drop}
use Rattle.lq_volume_entries.specs.Attributes.{value_of}
use Rattle.lq_volume_entries.proofs.attr_table.index_of.Given as goal

-- the value is among those that are left
abbrev pub invariant-loop-pair : goal.invariant-loop-pair
invariant-loop-pair l =
    record {
      index : l.index ≡ l.pair-index;
      left : value_of (drop l.pair-index l.list) l.attr ≡ value_of l.list l.attr;
    }
