use Rattle.std.proofs.Common.{◌≡◌, ◌<◌, ◌≤◌, ◌+◌, ℕ, false, true}
use Rattle.lq_board.specs.Slot.{slot_at}
use Rattle.lq_desk_sub.specs.SlotSet.{has}
use Rattle.lq_server_slots.specs.Slots.{IsNoticed, KeepsSlots, MarksCover, SlotHears, SlotIs, slot_in}
use Rattle.lq_server_slots.specs.Turn.{SlotNoticed}
use Rattle.lq_server_slots.proofs.slots.notice_all.Given as goal

abbrev pub invariant-loop-index : goal.invariant-loop-index
invariant-loop-index l = record {
  keeps : KeepsSlots l.fn.slots l.slots;
  noticed : (i : ℕ) → i < 64 → has l.rest.word i ≡ false
      → SlotIs IsNoticed (slot_in l.slots.subscriptions i) (slot_at l.slots.keeper.slots (i + 1));
  heard : (i : ℕ) → i < 64 → has l.rest.word i ≡ false
      → SlotHears l.fn.slots.keeper.register.heard i (slot_in l.slots.subscriptions i)
      (slot_at l.slots.keeper.slots (i + 1));
  same : l.slots.keeper.register.heard ≡ l.fn.slots.keeper.register.heard;
  shown : (i : ℕ) → i < 64 → has l.rest.word i ≡ false
      → SlotNoticed l.fn.slots.keeper.book (slot_in l.fn.slots.subscriptions i)
      (slot_in l.slots.subscriptions i) (slot_at l.slots.keeper.slots (i + 1));
  left : (i : ℕ) → has l.rest.word i ≡ true
      → slot_in l.slots.subscriptions i ≡ slot_in l.fn.slots.subscriptions i;
  rises : (k : ℕ) → (slot_at l.fn.slots.keeper.slots k).asks
      ≤ (slot_at l.slots.keeper.slots k).asks;
  marks : MarksCover l.fn.number l.fn.slots.subscriptions l.slots.subscriptions;
  watch : l.slots.watch ≡ l.fn.slots.watch;
}

abbrev pub decreases-loop-index : goal.decreases-loop-index
decreases-loop-index l = l.rest.word
