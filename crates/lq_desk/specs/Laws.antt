-- What is kept answers as each world that it shows.
use Rattle.std.specs.Prelude.{◌≡◌}
use Rattle.lq_desk_world.specs.World.{World}
use Rattle.lq_desk_world.specs.declared.event.Event.{Event}
use Rattle.lq_desk_world.specs.Events.{answer_to, next}
use Rattle.lq_desk.specs.DeskState.{DeskState, Shows, kept_outcome}

-- if a state shows a world, both give each event the same answer, and the next state shows the next
-- world
abbrev pub KeptShowsWorlds : Type 0
KeptShowsWorlds = (k : DeskState) (w : World) (e : Event) → Shows k w
    → ((kept_outcome k e).0 ≡ answer_to w e) × Shows (kept_outcome k e).1 (next w e)
