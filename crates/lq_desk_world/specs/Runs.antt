-- Runs of events: one answer for each event, in order.
use Rattle.std.specs.Prelude.{◌≡◌, List, [], ◌∷◌, None, ◌⊎◌}
use Rattle.lq_value.specs.declared.refusal.Refusal.TheVariants.{NoMemory}
use Rattle.lq_volume.specs.Change.{refused}
use Rattle.lq_volume.specs.Book.{state_of}
use Rattle.lq_desk_world.specs.World.{World}
use Rattle.lq_desk_world.specs.declared.event.Event.{Event}
use Rattle.lq_desk_world.specs.declared.event.Event.TheVariants.{Change, Open, OpenBy}
use Rattle.lq_desk_world.specs.Events.{Answer, Refused, answer_to, next, open_refusal}

-- a change and an opening that nothing else refuses may run out of memory
abbrev pub MayRunOut : World → Event → Type 0
MayRunOut w (Change c) = refused (state_of w.book) c ≡ None
MayRunOut w (Open q port backlog moved) = open_refusal w port backlog ≡ None
MayRunOut w (OpenBy q options) = open_refusal w options.port options.backlog ≡ None
MayRunOut w e = ⊥

-- one event has its outcome, or memory runs out and the world stays the same
abbrev pub Step : World → Event → Answer → World → Type 0
Step w e a v =
    ((a ≡ answer_to w e) × (v ≡ next w e)) ⊎ (MayRunOut w e × (a ≡ Refused NoMemory) × (v ≡ w))

-- one answer for each event, one step after another
abbrev pub Run : World → List Event → List Answer → World → Type 0
Run w [] [] end = end ≡ w
Run w (e ∷ events) (a ∷ answers) end = (v : World) × Step w e a v × Run v events answers end
Run w [] (a ∷ answers) end = ⊥
Run w (e ∷ events) [] end = ⊥
