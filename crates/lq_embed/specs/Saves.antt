-- What a save asks of a volume.
use Rattle.std.specs.Prelude.{ℕ, ◌==◌, List, length, map, Ok, if◌then◌else◌}
use Rattle.lq_volume.specs.State as volume
use Rattle.lq_volume.specs.State.{Record}
use Rattle.lq_embed.specs.Outcome.{Gives}
use Rattle.lq_embed.specs.declared.saves.NumbersOut.{NumbersOut}

-- the numbers of a volume
abbrev pub numbers_of : volume.State → NumbersOut
numbers_of s = record { limit = s.limit; changes = s.number; next = s.next }

-- the nodes of records
abbrev pub nodes_in : List (ℕ × Record) → List ℕ
nodes_in es = map (λ e. e.0) es

-- the nodes in room for just as many; other room stays
abbrev pub nodes_put : List ℕ → List ℕ → List ℕ
nodes_put nodes room = if length room == length nodes then nodes else room

-- the nodes of all entries, and how many they are, in place of what was there
abbrev pub TellsNodes : volume.State → List ℕ → List ℕ → ℕ → ℕ → ℕ → Type 0
TellsNodes s before after count_before count_after status = Gives {T = List ℕ × ℕ}
    (Ok (nodes_put (nodes_in s.records) before, length s.records)) (before, count_before)
    (after, count_after) status
