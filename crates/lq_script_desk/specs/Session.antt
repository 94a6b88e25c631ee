-- The state that answers a script's lines: a world, and the folds of the slots.
use Rattle.lq_volume.specs.State.{State}
use Rattle.lq_volume.specs.Book.{state_of}
use Rattle.lq_desk_world.specs.World.{World}
use Rattle.lq_script_desk.specs.Folds.{Folds}

-- a world, and the folds of the slots
pub record Session : Type 0 where
  pub core : World
  pub folds : Folds

-- a session with this world and these folds
abbrev pub session_with : World → Folds → Session
session_with core folds = record { core = core; folds = folds }

-- the volume now
abbrev pub volume_of : Session → State
volume_of s = state_of s.core.book
