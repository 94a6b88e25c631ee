-- The list of events of one turn: an event, and the steps that a server adds by itself.
use Rattle.std.specs.Prelude.{ℕ, ◌+◌, ◌-◌, List, [], ◌∷◌, ◌++◌, map, replicate, Option, Some, None, ◌==◌, slice_get, if◌then◌else◌}
use Rattle.std.specs.List.{fold}
use Rattle.std.specs.Option.{option_map, option_flatten}
use Rattle.lq_desk_world.specs.World.{World}
use Rattle.lq_desk_world.specs.declared.event.Event.{Event}
use Rattle.lq_desk_world.specs.declared.event.Event.TheVariants.{Change, Put, Take, Notice, Close}
use Rattle.lq_desk_world.specs.Events.{Answer, outcome}

-- ---- which slots are taken, and how many places their ports have: slot k is at index k - 1

abbrev pub ports_of : World → List (Option ℕ)
ports_of w = map (option_map (λ s. s.port)) w.slots

abbrev pub places_in : Option ℕ → ℕ
places_in None = 0
places_in (Some port) = port

-- the number of places of a slot's port; 0 for a free slot
abbrev pub places_at : List (Option ℕ) → ℕ → ℕ
places_at ports slot =
    if slot == 0 then 0 else places_in (option_flatten (slice_get ports (slot - 1)))

-- ---- lists of events

-- what is done at each taken slot, in rising order; the first slot here is slot n
abbrev pub at_slot_of : (ℕ → ℕ → List Event) → ℕ → Option ℕ → List Event
at_slot_of events slot None = []
at_slot_of events slot (Some port) = events slot port

abbrev pub at_each : (ℕ → ℕ → List Event) → ℕ → List (Option ℕ) → List Event
at_each events n [] = []
at_each events n (port ∷ ports) = at_slot_of events n port ++ at_each events (n + 1) ports

abbrev pub one_notice : ℕ → ℕ → List Event
one_notice slot port = Notice slot ∷ []

-- As many puts as the port has places. They lead where puts until nothing moves lead, since a put
-- that moves nothing changes nothing: the law `turns_put_until_still` (`Laws`).
abbrev pub put_events : ℕ → ℕ → List Event
put_events slot port = replicate port (Put slot)

-- a notice of each taken slot's end, if it was asked for, and puts that fill each port
abbrev pub notices : List (Option ℕ) → List Event
notices ports = at_each one_notice 1 ports

abbrev pub all_puts : List (Option ℕ) → List Event
all_puts ports = at_each put_events 1 ports

-- ---- turns

pub record Turn : Type 0 where
  pub before : List Event
  pub event : Event
  pub after : List Event

-- Before a change come all notices. A read and a close come after the notice of their slot, and a
-- read after its port is filled. To fill a port is to put until nothing moves (`PutsUntilStill` of
-- `Laws`).
abbrev pub steps_before : List (Option ℕ) → Event → List Event
steps_before ports (Change c) = notices ports
steps_before ports (Take slot) = Notice slot ∷ put_events slot (places_at ports slot)
steps_before ports (Close slot) = Notice slot ∷ []
steps_before ports e = []

-- After a change every port is filled, and after a close the port of its slot.
abbrev pub steps_after : List (Option ℕ) → Event → List Event
steps_after ports (Change c) = all_puts ports
steps_after ports (Close slot) = put_events slot (places_at ports slot)
steps_after ports e = []

-- Any other event comes alone.
abbrev pub turn_of : List (Option ℕ) → Event → Turn
turn_of ports e =
    record { before = steps_before ports e; event = e; after = steps_after ports e }

abbrev pub events_in : Turn → List Event
events_in t = t.before ++ t.event ∷ t.after

-- ---- turns carried out by anything that answers events

-- the state after events, one after another
abbrev pub after_events : {Core : Type 0}
    → (Core → Event → Answer × Core) → Core → List Event → Core
after_events step s events = fold (λ t e. (step t e).1) s events

-- the answer to a turn's event, and the state after the turn
abbrev pub carried_out : {Core : Type 0} → (Core → Event → Answer × Core) → Core → Turn
    → Answer × Core
carried_out step s t = (
  (step (after_events step s t.before) t.event).0,
  after_events step (step (after_events step s t.before) t.event).1 t.after,
)

abbrev pub turn_outcome : World → Event → Answer × World
turn_outcome w e = carried_out outcome w (turn_of (ports_of w) e)
