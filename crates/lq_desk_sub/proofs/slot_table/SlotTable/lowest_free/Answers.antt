use Rattle.std.proofs.Common.{◌≡◌, ◌<◌, ◌∙◌, ℕ, List, Option, Some, None, false, true, subst, arith}
use Rattle.std.specs.Prelude.{MatchOption, IfSome, IfNone}
use Rattle.lq_desk_sub.specs.declared.slot_index.SlotIndex.{SlotIndex}
use Rattle.lq_desk_sub.specs.SlotSet.{has}
use Rattle.lq_desk_sub.specs.SlotTable.{IsTable, first_free}
use Rattle.lq_desk_sub.proofs.SlotTableLemmas.{first_free-full, first_free-here}
use Rattle.lq_desk_sub.proofs.slot_table.SlotTable.lowest_free.Goals as goal

-- the first free slot of a table is the lowest outside the set of the taken
lowest-is : {T : Type 0} (r : Option SlotIndex) (taken : ℕ) (xs : List (Option T))
    → IsTable taken xs → IfSome r (λ slot. has taken slot.index ≡ false)
    → IfSome r (λ slot. (i : ℕ) → i < slot.index → has taken i ≡ true)
    → IfNone r ((i : ℕ) → i < 64 → has taken i ≡ true)
    → MatchOption r (first_free xs ≡ 64) (λ slot. slot.index ≡ first_free xs)
lowest-is None taken xs t outside below full =
    first_free-full (has taken) xs t.has_taken (λ j lt. full j (omega (arith, t.wide, lt)))
    ∙ t.wide
lowest-is (Some slot) taken xs t outside below full = first_free-here (has taken) xs slot.index
    (let lt = slot.within in omega (arith, t.wide)) t.has_taken outside below

pub returns : goal.returns
returns g c =
    subst (λ (xs : List (Option _)). MatchOption c.lowest_outside.result (first_free xs ≡ 64)
    (λ slot. slot.index ≡ first_free xs)) c.self.view_is
    (lowest-is c.lowest_outside.result c.self.inside.taken.word c.self.inside.slots.items
    c.self.invariant c.lowest_outside.ensures.outside c.lowest_outside.ensures.lowest
    c.lowest_outside.ensures.full)
