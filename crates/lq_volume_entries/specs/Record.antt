-- The records of a volume, each under its node, by rising node.
use Rattle.std.specs.Prelude.{ℕ, ℤ, zero, suc, ◌<◌, List, [], ◌∷◌, Bool, ◌&&◌, ◌||◌, ◌==◌, nat_eq, false, Option, Some, None, if◌then◌else◌}
use Rattle.std.specs.Option.{option_map, option_map_or}
use Rattle.std.specs.List.{AllByRecursion}
use Rattle.std.specs.Map.{lookup}
use Rattle.std.specs.Str.{bytes_eq}
use Rattle.lq_value.specs.declared.entry.Entry.{Entry}
use Rattle.lq_value.specs.declared.kind.Kind.{Kind}
use Rattle.lq_volume_entries.specs.Attributes.{Attributes}

-- an entry, under its node
pub record Record : Type 0 where
  pub dir : ℕ
  pub name : List ℕ
  pub kind : Kind
  pub size : ℕ
  pub time : ℤ
  pub attrs : Attributes

-- the root has no record
abbrev pub root : ℕ
root = 1

-- the folder that contains a node; none for the root
abbrev pub dir_of : List (ℕ × Record) → ℕ → Option ℕ
dir_of es node = option_map (λ r. r.dir) (lookup (nat_eq node) es)

-- whether a walk up from a node, of at most this many steps, reaches another
abbrev pub climbs : ℕ → (ℕ → Option ℕ) → ℕ → ℕ → Bool
climbs zero up to at = at == to
climbs (suc steps) up to at = (at == to) || option_map_or (climbs steps up to) (up at) false

-- the node at a place
abbrev pub node_in : List (ℕ × Record) → ℕ → List ℕ → Option ℕ
node_in [] dir name = None
node_in (e ∷ es) dir name =
    if (e.1.dir == dir) && bytes_eq e.1.name name then Some e.0
    else node_in es dir name

-- the nodes rise, so none occurs twice
abbrev pub Rises : List (ℕ × Record) → Type 0
Rises [] = Unit {0}
Rises (e ∷ es) = AllByRecursion (λ f. e.0 < f.0) es × Rises es

-- what a result shows of a record: its place and its node
abbrev pub entry_of : ℕ × Record → Entry
entry_of e = record { dir = e.1.dir; name = e.1.name; node = e.0 }
