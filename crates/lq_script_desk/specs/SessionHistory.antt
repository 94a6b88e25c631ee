-- The history of a session: the events that its calls carried out, and the answers to them.
use Rattle.std.specs.Prelude.{◌≡◌, ℕ, List, [], ◌∷◌, ◌++◌, length, Some}
use Rattle.lq_volume.specs.State.{State, IsVolume}
use Rattle.lq_update.specs.Fold.{Folding}
use Rattle.lq_desk_world.specs.declared.event.Event.{Event}
use Rattle.lq_desk_world.specs.Events.{Answer}
use Rattle.lq_desk_world.specs.Runs.{Run}
use Rattle.lq_desk_world.specs.Turns.{events_in, ports_of, turn_of}
use Rattle.lq_desk_world.specs.Headline.{ReadersAreTold}
use Rattle.lq_script_desk.specs.Folds.{fold_at}
use Rattle.lq_script_desk.specs.History.{IsFoldOf}
use Rattle.lq_script_desk.specs.Keeps.{without_fold}
use Rattle.lq_script_desk.specs.Script.{session_over, world_over}
use Rattle.lq_script_desk.specs.Session.{Session}
use Rattle.lq_script_desk.specs.Turned.{Turned}

-- These events and the answers to them lead from the first world over a volume to the session's.
-- If a slot has a result, it is Fold over its opening's result and the updates that were read
-- since.
pub record IsHistory (start : State) (s : Session) (events : List Event)
    (answers : List Answer) : Type 0 where
  pub run : Run (world_over start) events answers s.core
  pub folds : (slot : ℕ) (f : Folding) → fold_at s.folds slot ≡ Some f
      → IsFoldOf slot events answers f

-- The history after a turn: the old one, then the turn's events and the answers to them, in which
-- the event's own answer has the event's place.
pub record HistoryGoesOn (start : State) (old new : Session) (e : Event) (a : Answer)
    (events : List Event) (answers : List Answer) : Type 0 where
  pub befores : List Answer
  pub afters : List Answer
  pub place : length befores ≡ length (turn_of (ports_of old.core) e).before
  pub history : IsHistory start new (events ++ events_in (turn_of (ports_of old.core) e))
      (answers ++ (befores ++ a ∷ afters))

-- The law of sessions over a volume. The first one has the empty history. Whatever history a
-- session has, a turn goes on from it, and it stays one where a result is forgotten. Of every
-- history the headline is true.
pub record SessionsTell (start : State) : Type 0 where
  pub begins : IsHistory start (session_over start) [] []
  pub turns : (old new : Session) (e : Event) (a : Answer) → Turned old new e a
      → (events : List Event) (answers : List Answer) → IsHistory start old events answers
      → HistoryGoesOn start old new e a events answers
  pub forgets : (s : Session) (slot : ℕ) (events : List Event) (answers : List Answer)
      → IsHistory start s events answers → IsHistory start (without_fold s slot) events answers
  pub readers : (s : Session) (events : List Event) (answers : List Answer)
      → IsHistory start s events answers → ReadersAreTold start events answers

-- the law of sessions over every volume
abbrev pub AllSessionsTell : Type 0
AllSessionsTell = (start : State) → IsVolume start → SessionsTell start
