-- What is kept after one turn: an event, and the steps that the desk adds by itself.
use Rattle.std.specs.Prelude.{◌≡◌, ℕ, List, map, Option}
use Rattle.std.specs.Option.{option_map}
use Rattle.lq_desk_world.specs.declared.event.Event.{Event}
use Rattle.lq_desk_world.specs.Events.{Answer}
use Rattle.lq_desk_world.specs.Turns.{Turn, turn_of, after_events, carried_out}
use Rattle.lq_desk.specs.Slot.{KeptSlot}
use Rattle.lq_desk.specs.DeskState.{DeskState, KeptStep, kept_outcome}

-- the number of places of a slot's port
abbrev pub slot_port : KeptSlot → ℕ
slot_port s = s.port

-- the number of places of each taken slot's port
abbrev pub kept_ports : DeskState → List (Option ℕ)
kept_ports k = map (option_map slot_port) k.slots

-- the turn that an event begins: the event, and the steps before and after it
abbrev pub kept_turn : DeskState → Event → Turn
kept_turn k e = turn_of (kept_ports k) e

-- the answer to the event, and the state after the turn
abbrev pub kept_turn_outcome : DeskState → Event → Answer × DeskState
kept_turn_outcome k e = carried_out kept_outcome k (kept_turn k e)

-- the state after events that take no memory
abbrev pub kept_after : DeskState → List Event → DeskState
kept_after k events = after_events kept_outcome k events

-- a whole turn, whose event may also run out of memory
pub record TurnStep (k : DeskState) (e : Event) (a : Answer) (l : DeskState) : Type 0 where
  pub middle : DeskState
  pub step : KeptStep (kept_after k (kept_turn k e).before) e a middle
  pub after : l ≡ kept_after middle (kept_turn k e).after
