-- When a look-up is refused.
use Rattle.std.specs.Prelude.{ℕ, List, [], ◌∷◌, Bool, ◌==◌, is_none}
use Rattle.lq_value.specs.declared.refusal.Refusal.{Refusal}
use Rattle.lq_value.specs.declared.refusal.Refusal.TheVariants.{NoNode, NotFolder, NoEntry}
use Rattle.lq_volume.specs.declared.entry_ref.Listing.{Listing}
use Rattle.lq_volume.specs.State.{State, Record, root, kind_at, node_in}
use Rattle.lq_volume.specs.Change.{is_file_at}

-- the tests of a look-up of the node at a place
abbrev pub find_refusals : State → ℕ → List ℕ → List (Bool × Refusal)
find_refusals s dir name =
    (is_none (kind_at s dir), NoNode)
    ∷ (is_file_at s dir, NotFolder)
    ∷ (is_none (node_in s.records dir name), NoEntry)
    ∷ []

-- the tests of a look-up of the entry of a node; the root is not an entry
abbrev pub entry_refusals : State → ℕ → List (Bool × Refusal)
entry_refusals s node =
    (is_none (kind_at s node), NoNode)
    ∷ (node == root, NoEntry)
    ∷ []

-- the tests of a look-up of the entries in a folder
abbrev pub children_refusals : State → ℕ → List (Bool × Refusal)
children_refusals s dir =
    (is_none (kind_at s dir), NoNode)
    ∷ (is_file_at s dir, NotFolder)
    ∷ []

-- the test of a look-up of a node's path; the root has one
abbrev pub path_refusals : State → ℕ → List (Bool × Refusal)
path_refusals s node = (is_none (kind_at s node), NoNode) ∷ []

-- the record that a listing shows
abbrev pub listed : Listing → Record
listed l = record {
  dir = l.dir;
  name = l.name;
  kind = l.kind;
  size = l.size;
  time = l.time;
  attrs = l.attrs.items;
}
