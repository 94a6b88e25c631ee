use Rattle.std.proofs.Common.{◌≤◌, ◌-◌, length, take}
use Rattle.lq_value_pattern.specs.Element.{set_has}
use Rattle.lq_value_pattern.specs.Masks.{ArePut}
use Rattle.lq_value_pattern.proofs.build_masks.put_items.Given as goal

-- the bits of the items so far
abbrev pub invariant-loop-i : goal.invariant-loop-i
invariant-loop-i l = record {
  within : l.i ≤ length l.items;
  marked : ArePut (set_has (take l.i l.items)) l.j l.chars l.fn.masks l.masks;
}

abbrev pub decreases-loop-i : goal.decreases-loop-i
decreases-loop-i l = length l.items - l.i
