-- A lawful change to a state, with what it touches.
use Rattle.std.specs.Prelude.{◌≡◌, ◌≢◌, ℕ, ℤ, ◌+◌, Option, Some, IfSome, IsSomeAnd, MatchOption}
use Rattle.std.specs.Option.{option_copied, option_map}
use Rattle.lq_volume.specs.declared.change.Applied.{Applied}
use Rattle.lq_volume.specs.declared.change.Change.{Change}
use Rattle.lq_volume.specs.declared.change.Change.TheVariants.{Write}
use Rattle.lq_volume.specs.declared.change.Resolved.{Resolved}
use Rattle.lq_volume.specs.declared.planned.LookedUp.{LookedUp}
use Rattle.lq_volume.specs.declared.planned.WrittenNumbers.{WrittenNumbers}
use Rattle.lq_volume.specs.State.{State, Record, record_at, IsVolume}
use Rattle.lq_volume.specs.Change.{node_of, record_left, clobbered, IsLawful}

-- a state and a change to it
pub record Plan : Type 0 where
  pub before : State
  pub change : Change

-- what an accepted change answers, and the other node that a move removes
abbrev pub resolved_of : State → Change → Resolved
resolved_of s c =
    record {
      applied = record { change = s.number + 1; node = node_of s c };
      clobbered = clobbered s c;
    }

-- each look-up of a change's check gave what the definitions say
pub record IsLookedUp (s : State) (c : Change) (found : LookedUp) : Type 0 where
  -- the record of the change's own node
  pub stored : option_copied found.stored ≡ record_at s (node_of s c)
  -- the other node that is removed, with its record
  pub other : option_map (λ e. e.0) found.other ≡ clobbered s c
  pub gone : IfSome found.other (λ e. record_at s e.0 ≡ Some e.1.now)

-- the change is a write of the new size and time, and its node has the old ones
pub record WritesNumbers (s : State) (c : Change) (w : WrittenNumbers) : Type 0 where
  pub write : c ≡ Write (node_of s c) w.new_size w.new_time
  pub found : IsSomeAnd (record_at s (node_of s c))
      (λ r. (r.size ≡ w.old_size) × (r.time ≡ w.old_time))

-- the change is no write
abbrev pub IsNoWrite : Change → Type 0
IsNoWrite c = (node size : ℕ) (time : ℤ) → c ≢ Write node size time

-- the change is lawful, and this is what it answers and what it touches
pub record IsPlanned (s : State) (c : Change) (made : Applied)
    (entry_before entry_after : Option Record) (other : Option (ℕ × Record))
    (numbers : Option WrittenNumbers) : Type 0 where
  pub volume : IsVolume s
  pub lawful : IsLawful s c
  -- its number, and the node that it creates or names
  pub applied : made ≡ record { change = s.number + 1; node = node_of s c }
  -- the record of the change's own node, before and after
  pub before : entry_before ≡ record_at s (node_of s c)
  pub after : entry_after ≡ record_left s c
  -- the other node that is removed, with its record
  pub clobbered : option_map (λ e. e.0) other ≡ clobbered s c
  pub gone : IfSome other (λ e. record_at s e.0 ≡ Some e.1)
  -- the numbers of a write
  pub written : MatchOption numbers (IsNoWrite c) (WritesNumbers s c)
