use Rattle.std.proofs.Common.{◌≡◌, ◌-◌}
use Rattle.lq_desk.specs.Slot.{slot_of, after_puts, filled}
use Rattle.lq_desk.proofs.slot.Slot.fill.Given as goal

abbrev pub invariant-loop : goal.invariant-loop
invariant-loop l = record {
  rest : after_puts (l.fn.self.port - l.counter) (slot_of l.self) ≡ filled (slot_of l.fn.self);
}
