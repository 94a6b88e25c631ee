-- The invariants of each subscription in a world that runs.
use Rattle.std.specs.Prelude.{◌≡◌, ◌+◌, ◌≤◌, ℕ, List, length, true, Option, Some, slice_get}
use Rattle.lq_volume.specs.Book.{Book, number_of}
use Rattle.lq_desk_world.specs.World.{World, Subscribed, covered, whole, waiting_count, is_live}

pub record IsFair (b : Book) (s : Subscribed) : Type 0 where
  -- in rising order: the book's start, the opening, the last change covered, the book's last change
  pub begun : b.start.number ≤ s.opened
  pub opened : s.opened ≤ covered b s
  pub covered : covered b s ≤ number_of b
  -- what was taken was put, what was put is in its list, and at most as much waits as its port has
  -- places
  pub taken : s.taken ≤ s.put
  pub put : s.put ≤ length (whole b s)
  pub port : s.put ≤ s.taken + s.port
  -- its port has 1 to 1,024 places, and its backlog is at most 65,536
  pub places : 1 ≤ s.port
  pub most : s.port ≤ 1024
  pub backlog : s.backlog ≤ 65536
  -- while it is live, at most its backlog is held
  pub held : is_live s ≡ true → waiting_count b s ≤ s.backlog

-- each subscription in the slots is fair
abbrev pub AreFair : Book → List (Option Subscribed) → Type 0
AreFair b slots = (i : ℕ) (s : Subscribed) → slice_get slots i ≡ Some (Some s) → IsFair b s

pub record IsFairWorld (w : World) : Type 0 where
  pub each : AreFair w.book w.slots
