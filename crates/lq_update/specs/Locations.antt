-- Entries as the locations of their nodes.
use Rattle.std.specs.Prelude.{ℕ, List, map}
use Rattle.lq_value.specs.declared.entry.Entry.{Entry}
use Rattle.lq_update.specs.declared.locations.Location.{Location}

-- the entry of a node at a location
abbrev pub entry_under : ℕ × Location → Entry
entry_under l = record { dir = l.1.dir; name = l.1.name; node = l.0 }

-- the entries of nodes with their locations, in the same order
abbrev pub entries_of : List (ℕ × Location) → List Entry
entries_of ls = map entry_under ls
