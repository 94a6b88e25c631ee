use Rattle.std.proofs.Common.{◌≡◌, ◌≤◌, None, replicate}
use Rattle.std.specs.Prelude.{vec_len, vec_capacity}
use Rattle.lq_desk_sub.proofs.slot_table.SlotTable.new.Given as goal

abbrev pub invariant-loop : goal.invariant-loop
invariant-loop g l = record {
  len : vec_len l.slots ≡ l.counter;
  room : 64 ≤ vec_capacity l.slots;
  items : l.slots.items ≡ replicate l.counter None;
}
