-- What a volume holds: its limit, the number of accepted changes, the next node, and the records by
-- rising node.
use Rattle.std.specs.Prelude.{ℕ, ◌≡◌, ◌+◌, ◌≤◌, ◌<◌, List, [], length, Bool, true, false, ◌&&◌, ◌==◌, nat_eq, Option, Some, None, if◌then◌else◌}
use Rattle.std.specs.Option.{option_map, option_map_or}
use Rattle.std.specs.List.{list_any, AllByRecursion}
use Rattle.std.specs.Map.{lookup, values_of}
use Rattle.std.specs.Str.{bytes_eq}
use Rattle.lq_value.specs.declared.kind.Kind.{Kind}
use Rattle.lq_value.specs.declared.kind.Kind.TheVariants.{Folder}
use Rattle.lq_volume_entries.specs.Attributes.{HasOwnNames, is_reserved}
use Rattle.lq_volume_entries.specs.Kind.{is_folder}
pub use Rattle.lq_volume_entries.specs.Record.{Record, root, dir_of, climbs, node_in, Rises}

-- what a volume holds
pub record State : Type 0 where
  pub limit : ℕ
  pub number : ℕ
  pub next : ℕ
  pub records : List (ℕ × Record)

-- the record of a node
abbrev pub record_at : State → ℕ → Option Record
record_at s node = lookup (nat_eq node) s.records

-- the kind of a node; the root is a folder
abbrev pub kind_at : State → ℕ → Option Kind
kind_at s node = if node == root then Some Folder else option_map (λ r. r.kind) (record_at s node)

-- whether the node is there and is a folder
abbrev pub is_folder_at : State → ℕ → Bool
is_folder_at s node = option_map_or is_folder (kind_at s node) false

-- whether a walk up, folder by folder, leads from one node to another: the same node or one above
abbrev pub reaches : State → ℕ → ℕ → Bool
reaches s at to = climbs (length s.records) (dir_of s.records) to at

-- whether the folder contains an entry
abbrev pub has_entries : State → ℕ → Bool
has_entries s dir = list_any (λ r. r.dir == dir) (values_of s.records)

-- whether an entry is at that place
abbrev pub is_taken : State → ℕ → List ℕ → Bool
is_taken s dir name = list_any (λ r. (r.dir == dir) && bytes_eq r.name name) (values_of s.records)

-- the volume before any change
abbrev pub empty_state : ℕ → State
empty_state limit = record { limit = limit; number = 0; next = 2; records = [] }

-- the invariants of a volume's numbers and nodes
pub record IsNumbered (s : State) : Type 0 where
  pub limit : s.limit ≤ 1000000000000
  pub number : s.number ≤ s.limit
  pub next : 2 ≤ s.next
  pub few : s.next ≤ s.number + 2
  pub rise : Rises s.records
  -- each node is at least 2 and below the next one to be used
  pub above : AllByRecursion (λ e. 2 ≤ e.0) s.records
  pub below : AllByRecursion (λ e. e.0 < s.next) s.records

-- the records are a tree
pub record IsTree (s : State) : Type 0 where
  -- each record is in the root or in a folder that has a record
  pub folders : (n : ℕ) (r : Record) → record_at s n ≡ Some r → is_folder_at s r.dir ≡ true
  -- a walk up from each record reaches the root
  pub climb : (n : ℕ) (r : Record) → record_at s n ≡ Some r → reaches s n root ≡ true
  -- no two records share a folder and a name
  pub apart : (m n : ℕ) (q r : Record) → record_at s m ≡ Some q → record_at s n ≡ Some r
      → q.dir ≡ r.dir → q.name ≡ r.name → m ≡ n
  -- a folder's size is 0
  pub sizes : (n : ℕ) (r : Record) → record_at s n ≡ Some r → is_folder r.kind ≡ true → r.size ≡ 0
  -- the root has no record
  pub no_root : record_at s root ≡ None

-- what each record of a volume keeps
pub record IsFit (r : Record) : Type 0 where
  -- no two attributes of an entry have the same name
  pub own : HasOwnNames r.attrs
  -- no attribute has a name under which every entry shows a property of its own
  pub plain : AllByRecursion (λ a. is_reserved a.0 ≡ false) r.attrs
  -- the size fits into an i64
  pub small : r.size ≤ 9223372036854775807

-- the invariants of a volume
pub record IsVolume (s : State) : Type 0 where
  pub numbered : IsNumbered s
  pub tree : IsTree s
  pub fit : AllByRecursion (λ e. IsFit e.1) s.records
