-- When a change is refused, and the state after an accepted one.
use Rattle.std.specs.Prelude.{◌≡◌, ℕ, ◌+◌, List, [], ◌∷◌, ◌++◌, Bool, false, not, ◌&&◌, ◌==◌, nat_le, nat_lt, Option, Some, None, is_none, filter, option_and_then, if◌then◌else◌}
use Rattle.std.specs.Option.{option_map, option_map_or, option_to_list}
use Rattle.lq_value.specs.declared.kind.Kind.{Kind}
use Rattle.lq_value.specs.declared.refusal.Refusal.{Refusal}
use Rattle.lq_value.specs.declared.refusal.Refusal.TheVariants.{NoNode, NotFolder, Exists, WouldLoop, NotEmpty, KindClash, IsFolder, NoAttr, Reserved, TooLong, Exhausted}
use Rattle.lq_value.specs.Refusal.{first_refusal}
use Rattle.lq_volume.specs.declared.change.Change.{Change}
use Rattle.lq_volume.specs.declared.change.Change.TheVariants.{Create, Remove, Move, Write, SetAttr, RemoveAttr}
use Rattle.lq_value.specs.declared.value.Value.{Value}
use Rattle.lq_volume_entries.specs.Attributes.{value_of, is_reserved}
use Rattle.lq_volume_entries.specs.Kind.{is_folder}
pub use Rattle.lq_volume_entries.specs.Edits.{other_than, without, altered_at, altered, at_place, rewritten, with_attrs, set_attr, remove_attr}
use Rattle.lq_volume.specs.State.{State, Record, root, record_at, kind_at, is_folder_at, has_entries, is_taken, node_in, reaches}

-- whether the node is there and isn't a folder
abbrev pub is_file_at : State → ℕ → Bool
is_file_at s node = option_map_or (λ k. not (is_folder k)) (kind_at s node) false

-- whether the volume accepts no further change
abbrev pub is_full : State → Bool
is_full s = nat_le s.limit s.number

-- the node at this place, if it is another than this one
abbrev pub other_at : State → ℕ → ℕ → List ℕ → Option ℕ
other_at s node dir name = other_than node (node_in s.records dir name)

-- whether there is another node, with this property
abbrev pub is_other : Option ℕ → (ℕ → Bool) → Bool
is_other other test = option_map_or test other false

-- whether two tests give different answers
abbrev pub differ : Bool → Bool → Bool
differ a b = if a then not b else b

-- the value of an attribute of a node
abbrev pub attr_of : State → ℕ → List ℕ → Option Value
attr_of s node attr = option_and_then (λ r. value_of r.attrs attr) (record_at s node)

-- the tests of a creation in order, each with the refusal that it gives where it holds
abbrev pub create_refusals : State → ℕ → List ℕ → Kind → ℕ → List (Bool × Refusal)
create_refusals s dir name kind size =
    (is_none (kind_at s dir), NoNode)
    ∷ (is_file_at s dir, NotFolder)
    ∷ (is_taken s dir name, Exists)
    ∷ (is_folder kind && not (size == 0), IsFolder)
    ∷ (nat_lt 9223372036854775807 size, TooLong)
    ∷ []

-- the tests of a removal
abbrev pub remove_refusals : State → ℕ → List (Bool × Refusal)
remove_refusals s node =
    (is_none (kind_at s node), NoNode)
    ∷ (node == root, Reserved)
    ∷ (is_folder_at s node && has_entries s node, NotEmpty)
    ∷ []

-- a node that is already at its place passes the three tests of the other node there
abbrev pub move_refusals : State → ℕ → ℕ → List ℕ → Bool → List (Bool × Refusal)
move_refusals s node dir name clobber =
    (is_none (kind_at s node), NoNode)
    ∷ (node == root, Reserved)
    ∷ (is_none (kind_at s dir), NoNode)
    ∷ (is_file_at s dir, NotFolder)
    ∷ (reaches s dir node, WouldLoop)
    ∷ (is_other (other_at s node dir name) (λ other. not clobber), Exists)
    ∷ (
      is_other (other_at s node dir name)
          (λ other. differ (is_folder_at s other) (is_folder_at s node)),
      KindClash,
    )
    ∷ (
      is_other (other_at s node dir name) (λ other. is_folder_at s other && has_entries s other),
      NotEmpty,
    )
    ∷ []

-- the tests of a write, in order
abbrev pub write_refusals : State → ℕ → ℕ → List (Bool × Refusal)
write_refusals s node size =
    (is_none (kind_at s node), NoNode)
    ∷ (node == root, Reserved)
    ∷ (is_folder_at s node, IsFolder)
    ∷ (nat_lt 9223372036854775807 size, TooLong)
    ∷ []

-- the tests of setting an attribute, in order
abbrev pub set_refusals : State → ℕ → List ℕ → List (Bool × Refusal)
set_refusals s node attr =
    (is_none (kind_at s node), NoNode)
    ∷ (node == root, Reserved)
    ∷ (is_reserved attr, Reserved)
    ∷ []

-- the tests of removing an attribute, in order
abbrev pub unset_refusals : State → ℕ → List ℕ → List (Bool × Refusal)
unset_refusals s node attr =
    set_refusals s node attr ++ (is_none (attr_of s node attr), NoAttr) ∷ []

-- the tests that a change has of its own
abbrev pub own_tests : State → Change → List (Bool × Refusal)
own_tests s (Create dir name kind size time) = create_refusals s dir name kind size
own_tests s (Remove node) = remove_refusals s node
own_tests s (Move node dir name clobber) = move_refusals s node dir name clobber
own_tests s (Write node size time) = write_refusals s node size
own_tests s (SetAttr node attr value) = set_refusals s node attr
own_tests s (RemoveAttr node attr) = unset_refusals s node attr

-- the tests of any change in order: the last one is whether the volume accepts a further change
abbrev pub refusals : State → Change → List (Bool × Refusal)
refusals s c = own_tests s c ++ (is_full s, Exhausted) ∷ []

-- the refusal of the first test that holds
abbrev pub refused : State → Change → Option Refusal
refused s c = first_refusal (refusals s c)

-- no test of the change holds
abbrev pub IsLawful : State → Change → Type 0
IsLawful s c = refused s c ≡ None

-- the state with one more change counted, and these records
abbrev pub with_records : State → List (ℕ × Record) → State
with_records s records = record s { number = s.number + 1; records = records }

-- the state after a change that is not refused
abbrev pub after : State → Change → State
after s (Create dir name kind size time) =
    record {
      limit = s.limit;
      number = s.number + 1;
      next = s.next + 1;
      records = s.records
          ++ (
            s.next,
            record { dir = dir; name = name; kind = kind; size = size; time = time; attrs = [] },
          )
          ∷ [];
    }
after s (Remove node) = with_records s (filter (λ e. not (e.0 == node)) s.records)
after s (Move node dir name clobber) =
    with_records s (altered node (at_place dir name) (without (other_at s node dir name) s.records))
after s (Write node size time) = with_records s (altered node (rewritten size time) s.records)
after s (SetAttr node attr value) = with_records s (altered node (set_attr attr value) s.records)
after s (RemoveAttr node attr) = with_records s (altered node (remove_attr attr) s.records)

-- the node that a change creates or names
abbrev pub node_of : State → Change → ℕ
node_of s (Create dir name kind size time) = s.next
node_of s (Remove node) = node
node_of s (Move node dir name clobber) = node
node_of s (Write node size time) = node
node_of s (SetAttr node attr value) = node
node_of s (RemoveAttr node attr) = node

-- the other node that a move removes
abbrev pub clobbered : State → Change → Option ℕ
clobbered s (Move node dir name clobber) = other_at s node dir name
clobbered s c = None

-- the nodes whose records an accepted change may alter
abbrev pub touched_by : State → Change → List ℕ
touched_by s c = node_of s c ∷ option_to_list (clobbered s c)

-- the record of the change's own node after the change
abbrev pub record_left : State → Change → Option Record
record_left s (Create dir name kind size time) =
    Some (record { dir = dir; name = name; kind = kind; size = size; time = time; attrs = [] })
record_left s (Remove node) = None
record_left s (Move node dir name clobber) = option_map (at_place dir name) (record_at s node)
record_left s (Write node size time) = option_map (rewritten size time) (record_at s node)
record_left s (SetAttr node attr value) = option_map (set_attr attr value) (record_at s node)
record_left s (RemoveAttr node attr) = option_map (remove_attr attr) (record_at s node)
