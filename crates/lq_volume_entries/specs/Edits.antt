-- What an edit makes of the records, and of one of them.
use Rattle.std.specs.Prelude.{ℕ, ℤ, List, Option, Some, None, ◌==◌, not, filter, map, if◌then◌else◌}
use Rattle.lq_value.specs.declared.value.Value.{Value}
use Rattle.lq_volume_entries.specs.Attributes.{Attributes, with_attr, without_attr}
use Rattle.lq_volume_entries.specs.Record.{Record}

-- the node at a place, if it is another one
abbrev pub other_than : ℕ → Option ℕ → Option ℕ
other_than node None = None
other_than node (Some there) = if there == node then None else Some there

-- the records without a node
abbrev pub without : Option ℕ → List (ℕ × Record) → List (ℕ × Record)
without None es = es
without (Some node) es = filter (λ e. not (e.0 == node)) es

-- an entry, with its record altered if it is the entry of this node
abbrev pub altered_at : ℕ → (Record → Record) → ℕ × Record → ℕ × Record
altered_at node f e = (e.0, if e.0 == node then f e.1 else e.1)

-- the entries, with the record of one node altered
abbrev pub altered : ℕ → (Record → Record) → List (ℕ × Record) → List (ℕ × Record)
altered node f es = map (altered_at node f) es

-- a record with another place
abbrev pub at_place : ℕ → List ℕ → Record → Record
at_place dir name r = record r { dir = dir; name = name }

-- a record with another size and time
abbrev pub rewritten : ℕ → ℤ → Record → Record
rewritten size time r = record r { size = size; time = time }

-- a record with other attributes
abbrev pub with_attrs : Attributes → Record → Record
with_attrs attrs r = record r { attrs = attrs }

-- a record with one attribute set
abbrev pub set_attr : List ℕ → Value → Record → Record
set_attr attr value r = with_attrs (with_attr r.attrs attr value) r

-- a record with one attribute removed
abbrev pub remove_attr : List ℕ → Record → Record
remove_attr attr r = with_attrs (without_attr r.attrs attr) r
