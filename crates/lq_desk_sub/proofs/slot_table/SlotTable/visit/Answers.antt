use Rattle.lq_desk_sub.proofs.SlotTableLemmas.{visits-table}
use Rattle.lq_desk_sub.proofs.slot_table.SlotTable.visit.Goals as goal

pub invariant_of-self : goal.invariant_of-self
invariant_of-self g c = visits-table _ _ _ c.self.inside.slots.items _ _ _
    c.self.inside.taken.word c.visit_in.ensures.visits c.visit_in.ensures.wide c.self.invariant
