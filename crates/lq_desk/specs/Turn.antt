-- What a world does in one turn: an event, and the steps that come with it.
use Rattle.std.specs.Prelude.{◌≡◌, ◌++◌, ◌∷◌, List, length}
use Rattle.lq_desk_world.specs.World.{World}
use Rattle.lq_desk_world.specs.declared.event.Event.{Event}
use Rattle.lq_desk_world.specs.Events.{Answer, Refused, next, outcome}
use Rattle.lq_desk_world.specs.Runs.{Run}
use Rattle.lq_desk_world.specs.Turns.{Turn, ports_of, turn_of, events_in, after_events}

-- a turn is a run of its events, and its answer is the answer to its own event
pub record TurnRuns (w : World) (e : Event) (a : Answer) (v : World) : Type 0 where
  pub before : List Answer
  pub after : List Answer
  pub place : length before ≡ length (turn_of (ports_of w) e).before
  pub run : Run w (events_in (turn_of (ports_of w) e)) (before ++ a ∷ after) v

-- ---- the world that a desk goes to

-- the world after an event that was answered so: a refused one leaves it
abbrev pub stepped : World → Event → Answer → World
stepped w e (Refused r) = w
stepped w e a = next w e

-- the same of a turn
abbrev pub carried_to : World → Turn → Answer → World
carried_to w t a = after_events outcome (stepped (after_events outcome w t.before) t.event
    a) t.after

abbrev pub world_after_turn : World → Event → Answer → World
world_after_turn w e a = carried_to w (turn_of (ports_of w) e) a
