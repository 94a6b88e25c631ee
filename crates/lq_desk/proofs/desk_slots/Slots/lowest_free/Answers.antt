use Rattle.std.proofs.Common.{◌≡◌, ◌+◌, ap, refl, List, [], ◌∷◌, map, Option, Some, None}
use Rattle.lq_desk_sub.specs.SlotTable.{first_free}
use Rattle.lq_desk_world.specs.World.{taken_before_free}
use Rattle.lq_desk.specs.Slot.{PreparedSlot}
use Rattle.lq_desk.proofs.SlotsLemmas.{kept_slot}
use Rattle.lq_desk.proofs.desk_slots.Slots.lowest_free.Goals as goal

-- the first free slot is free in what is kept
free-same : (xs : List (Option PreparedSlot))
    → first_free xs ≡ taken_before_free (map kept_slot xs)
free-same [] = refl
free-same (None ∷ xs) = refl
free-same (Some x ∷ xs) = ap (λ n. n + 1) (free-same xs)

pub returns : goal.returns
returns c = rw (← free-same c.args.self.now, ← c.self.view_is) c.lowest_free.ensures
