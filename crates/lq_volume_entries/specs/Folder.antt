-- The entries in a folder by rising name, and the path to a node: the names from the root down.
use Rattle.std.specs.Prelude.{◌≡◌, ℕ, List, [], ◌∷◌, ◌++◌, length, map, filter, nat_eq, ◌==◌, true, Option, Some, None, option_and_then, if◌then◌else◌}
use Rattle.std.specs.Cmp.Lexicographic.{slice_cmp}
use Rattle.std.specs.List.{Contains}
use Rattle.std.specs.List.Sorted.{IsPermutation, IsSortedByKey}
use Rattle.std.specs.Map.{lookup}
use Rattle.std.specs.Ordering.{nat_cmp}
use Rattle.lq_value.specs.declared.entry.Entry.{Entry}
use Rattle.lq_volume_entries.specs.PlaceIndex.{IsApart}
use Rattle.lq_volume_entries.specs.Record.{Record, root, climbs, dir_of, node_in, entry_of}

-- the entries in a folder, by rising node
abbrev pub entries_in : List (ℕ × Record) → ℕ → List Entry
entries_in es dir = map entry_of (filter (λ e. e.1.dir == dir) es)

-- these are the entries in a folder, each once and no other, by rising bytes of their names
pub record AreChildren (es : List (ℕ × Record)) (dir : ℕ) (entries : List Entry) : Type 0 where
  pub all : IsPermutation (entries_in es dir) entries
  pub rise : IsSortedByKey (λ (e : Entry). e.name) (slice_cmp nat_cmp) entries

-- the names lead down from one node to another: each is the name of an entry in the node before it
abbrev pub Leads : List (ℕ × Record) → ℕ → List (List ℕ) → ℕ → Type 0
Leads es from [] to = from ≡ to
Leads es from (name ∷ names) to =
    (next : ℕ) × (node_in es from name ≡ Some next) × Leads es next names to

-- the entry of a node, if its record is in the folder
abbrev pub entry_in : List (ℕ × Record) → ℕ → ℕ → Option Entry
entry_in es dir node =
    option_and_then (λ r. if r.dir == dir then Some (entry_of (node, r)) else None)
    (lookup (nat_eq node) es)

-- the entries with one more, if there is one
abbrev pub with_entry : List Entry → Option Entry → List Entry
with_entry entries None = entries
with_entry entries (Some entry) = entries ++ entry ∷ []

-- every record in the folder has its node among these
abbrev pub HasNodesIn : List (ℕ × Record) → ℕ → List ℕ → Type 0
HasNodesIn es dir nodes = (n : ℕ) (r : Record) → lookup (nat_eq n) es ≡ Some r → r.dir ≡ dir
    → Contains nodes n

-- what a walk up from a node to the root stands on
pub record CanClimb (es : List (ℕ × Record)) (node : ℕ) : Type 0 where
  pub apart : IsApart es
  pub within : climbs (length es) (dir_of es) root node ≡ true
  pub no_root : lookup (nat_eq root) es ≡ None
