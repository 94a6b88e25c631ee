-- A turn: its answer, and the session after it. It comes without a line, or by one.
use Rattle.std.specs.Prelude.{◌≡◌, ◌⊎◌, ℕ, true, Option, Some, None, Result, IsErr, OnOk}
use Rattle.lq_value.specs.declared.refusal.Refusal.{Refusal}
use Rattle.lq_value.specs.declared.refusal.Refusal.TheVariants.{NoMemory}
use Rattle.lq_desk_world.specs.declared.event.Event.{Event}
use Rattle.lq_desk_world.specs.Events.{Answer, Opened, Refused}
use Rattle.lq_desk_world.specs.Turns.{turn_outcome}
use Rattle.lq_desk.specs.Turn.{TurnRuns}
use Rattle.lq_script_request.specs.declared.request.Request.{Request}
use Rattle.lq_script_request.specs.declared.request.Request.TheVariants as request
use Rattle.lq_script_desk.specs.Folds.{Folds, folds_after, is_folded, with_fold}
use Rattle.lq_script_desk.specs.Session.{Session}
use Rattle.lq_script_desk.specs.Answered.{slot_named}

-- the slot whose fold an answer updates: the one that it opened, else the event's own
abbrev pub folded_slot : ℕ → Answer → ℕ
folded_slot slot (Opened opened at result) = opened
folded_slot slot a = slot

-- The folds are updated by the answer; or it starts or updates a fold, memory ran out for that, and
-- the slot has none.
abbrev pub Follow : ℕ → Answer → Folds → Folds → Type 0
Follow slot a old new = (new ≡ folds_after slot a old)
    ⊎ ((is_folded a ≡ true) × (new ≡ with_fold old (folded_slot slot a) None))

-- The answer and the world are those of the event's turn, as after a line that asks for it. Where
-- memory ran out for the event, the rest of its turn stands: the turn is a run to the new world.
pub record Turned (old new : Session) (e : Event) (a : Answer) : Type 0 where
  pub run : TurnRuns old.core e a new.core
  pub outcome : (a ≡ Refused NoMemory) ⊎ ((a, new.core) ≡ turn_outcome old.core e)
  pub folds : Follow (slot_named e) a old.folds new.folds

-- What a line that asks this does to the session. Its event, if it asks for one, has its turn, also
-- where memory runs out after it, and the reply tells the answer of that turn. A line that was
-- refused for want of memory may leave the session as it was. Any other line leaves it.
abbrev pub TurnedByLine : Session → Session → Result (Unit {0}) Refusal → Option Request → Type 0
TurnedByLine old new result (Some (request.Event e)) =
    (IsErr result × (new ≡ old))
    ⊎ ((a : Answer) × Turned old new e a × OnOk result (a ≡ (turn_outcome old.core e).0))
TurnedByLine old new result other = new ≡ old
