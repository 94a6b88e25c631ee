-- The item of a slot, lent.
use Rattle.std.specs.Prelude.{ℕ, List, Option, Some, slice_set}
use Rattle.std.specs.Borrow.{Lends, LendsIf, Fml, RattleType, MutBor}
use Rattle.lq_desk_sub.specs.contracts.slot_table.SlotTable.{the_row}

-- a table with an item in a slot
abbrev pub with_item : {T : Type 0} → List (Option T) → ℕ → T → List (Option T)
with_item slots index x = slice_set slots index (Some x)

module _ (T : RattleType) (s : MutBor (List (Option T.Denot))) (index : ℕ) where
  -- once the borrow r ends, the slot has the last value written through r
  abbrev pub LendsTaken : MutBor T.Denot → Fml
  LendsTaken r = Lends (the_row T) T s r (with_item s.now index)

  -- the same where r is a reference, and at `None` the table stays as it is
  abbrev pub LendsSlot : Option (MutBor T.Denot) → Fml
  LendsSlot r = LendsIf (the_row T) T s r (with_item s.now index) s.now
