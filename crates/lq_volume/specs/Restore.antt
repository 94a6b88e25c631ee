-- When numbers and records are no volume, and what each call of a restoring leaves.
use Rattle.std.specs.Prelude.{◌≡◌, ◌⊎◌, ◌↔◌, ℕ, ◌+◌, ◌≤◌, map, List, [], ◌∷◌, ◌++◌, Bool, true, false, not, ◌&&◌, ◌||◌, ◌==◌, nat_le, nat_lt, Option, Some, None, is_none, is_some, length, Result, OnOk, IfErr, if◌then◌else◌}
use Rattle.std.specs.List.{AllByRecursion, list_all}
use Rattle.lq_volume_entries.specs.Attributes.{Attributes, value_of, is_reserved}
use Rattle.lq_volume_entries.specs.Kind.{is_folder}
use Rattle.lq_volume_entries.specs.NodeSet.{has_node}
use Rattle.lq_volume_entries.specs.PlaceIndex.{IsApart}
use Rattle.lq_volume_entries.specs.declared.node_set.NodeSet.{NodeSet}
use Rattle.lq_volume.specs.State.{State, Record, root, dir_of, climbs, kind_at, is_taken, reaches, IsNumbered, IsFit, IsVolume}
use Rattle.lq_volume.specs.Change.{is_file_at}
use Rattle.lq_volume.specs.declared.entry_ref.Listing.{Listing}
use Rattle.lq_volume.specs.declared.restore_fault.RestoreFault.{RestoreFault}
use Rattle.lq_volume.specs.declared.restore_fault.RestoreFault.TheVariants.{NumberOutOfRange, NodeOutOfRange, OutOfOrder, NameTaken, SizeOfFolder, TooLong, Reserved, NameTwice, NoFolder, NotFolder, Ring, NoMemory}
use Rattle.lq_volume.specs.Lookup.{listed}

-- the fault of the first row whose test holds, in the order of the rows
abbrev pub first_fault : List (Bool × RestoreFault) → Option RestoreFault
first_fault [] = None
first_fault (row ∷ rows) = if row.0 then Some row.1 else first_fault rows

-- The call succeeds only where there is no fault. Otherwise it answers that fault, or memory ran
-- out.
abbrev pub FailsBy : {T : Type 0} → Result T RestoreFault → Option RestoreFault → Type 0
FailsBy result fault =
    OnOk result (fault ≡ None) × IfErr result (λ e. (e ≡ NoMemory) ⊎ (fault ≡ Some e))

-- the tests of a volume's numbers: those of its changes and of the next node
abbrev pub start_faults : ℕ → ℕ → ℕ → List (Bool × RestoreFault)
start_faults limit number next =
    (nat_lt limit number, NumberOutOfRange)
    ∷ (nat_lt next 2 || nat_lt (number + 2) next, NodeOutOfRange)
    ∷ []

-- the state with these numbers and no record
abbrev pub started : ℕ → ℕ → ℕ → State
started limit number next =
    record { limit = limit; number = number; next = next; records = [] }

-- the last node of a list that goes on after a node
abbrev pub last_after : ℕ → List (ℕ × Record) → ℕ
last_after node [] = node
last_after node (e ∷ es) = last_after e.0 es

-- the last node; before the first record it is the root
abbrev pub last_node : List (ℕ × Record) → ℕ
last_node es = last_after root es

-- the tests of a record's node, place and size
abbrev pub place_faults : State → ℕ → Record → List (Bool × RestoreFault)
place_faults s node r =
    (nat_le node (last_node s.records), OutOfOrder)
    ∷ (nat_le s.next node, NodeOutOfRange)
    ∷ (is_taken s r.dir r.name, NameTaken)
    ∷ (is_folder r.kind && not (r.size == 0), SizeOfFolder)
    ∷ (nat_lt 9223372036854775807 r.size, TooLong)
    ∷ []

-- the tests of attributes in order, after those before them
abbrev pub attr_faults : Attributes → Attributes → List (Bool × RestoreFault)
attr_faults before [] = []
attr_faults before (a ∷ attrs) =
    (is_reserved a.0, Reserved)
    ∷ (is_some (value_of before a.0), NameTwice)
    ∷ attr_faults (before ++ a ∷ []) attrs

-- the tests of one more record
abbrev pub push_faults : State → ℕ → Record → List (Bool × RestoreFault)
push_faults s node r = place_faults s node r ++ attr_faults [] r.attrs

-- the state with one more record
abbrev pub pushed : State → ℕ → Record → State
pushed s node r =
    record {
      limit = s.limit;
      number = s.number;
      next = s.next;
      records = s.records ++ (node, r) ∷ [];
    }

-- the tests of the folder that a record is in
abbrev pub folder_faults : State → ℕ → List (Bool × RestoreFault)
folder_faults s dir = (is_none (kind_at s dir), NoFolder) ∷ (is_file_at s dir, NotFolder) ∷ []

-- the tests of the folders of all these records, in their order
abbrev pub all_folder_faults : State → List (ℕ × Record) → List (Bool × RestoreFault)
all_folder_faults s [] = []
all_folder_faults s (e ∷ es) =
    (is_none (kind_at s e.1.dir), NoFolder)
    ∷ (is_file_at s e.1.dir, NotFolder)
    ∷ all_folder_faults s es

-- whether a walk up from each record reaches the root
abbrev pub all_reach : State → Bool
all_reach s = list_all (λ e. reaches s e.0 root) s.records

-- the tests of the tree: each record is in a folder, and no folder is within itself
abbrev pub finish_faults : State → List (Bool × RestoreFault)
finish_faults s = all_folder_faults s s.records ++ (not (all_reach s), Ring) ∷ []

-- the tests of these records in order, and then those of the tree
abbrev pub entry_faults : State → List (ℕ × Record) → List (Bool × RestoreFault)
entry_faults s [] = finish_faults s
entry_faults s (e ∷ es) = push_faults s e.0 e.1 ++ entry_faults (pushed s e.0 e.1) es

-- all tests of a restore, in order
abbrev pub restore_faults : ℕ → ℕ → ℕ → List (ℕ × Record) → List (Bool × RestoreFault)
restore_faults limit number next es =
    start_faults limit number next ++ entry_faults (started limit number next) es

-- all that a volume has to be but a tree: what the records have, each alone or two of them
pub record IsPartial (s : State) : Type 0 where
  pub numbered : IsNumbered s
  pub apart : IsApart s.records
  pub sizes : AllByRecursion (λ e. (is_folder e.1.kind && not (e.1.size == 0)) ≡ false) s.records
  pub fit : AllByRecursion (λ e. IsFit e.1) s.records

-- the records so far are a part of a volume, and this is the last node
pub record IsRestoring (s : State) (last : ℕ) : Type 0 where
  pub part : IsPartial s
  pub is_last : last ≡ last_node s.records

-- a walk up from each of these nodes reaches the root
abbrev pub AreSettled : List (ℕ × Record) → NodeSet → Type 0
AreSettled es set = (n : ℕ) → has_node set n ≡ true → climbs (length es) (dir_of es) root n ≡ true

-- no call of a restoring refuses these numbers and records
pub record IsRestored (s : State) : Type 0 where
  pub start : first_fault (start_faults s.limit s.number s.next) ≡ None
  pub push : (es fs : List (ℕ × Record)) (e : ℕ × Record) → s.records ≡ es ++ e ∷ fs
      → first_fault (push_faults
      (record { limit = s.limit; number = s.number; next = s.next; records = es }) e.0 e.1) ≡ None
  pub finish : first_fault (finish_faults s) ≡ None

-- the volumes are the states that no call of a restoring refuses
abbrev pub VolumesAreRestored : Type 0
VolumesAreRestored = (s : State) → s.limit ≤ 1000000000000 → IsVolume s ↔ IsRestored s

-- a node with the record that a listing shows
abbrev pub listed_pair : ℕ × Listing → ℕ × Record
listed_pair p = (p.0, listed p.1)

-- the state with these numbers and records
abbrev pub state_with : ℕ → ℕ → ℕ → List (ℕ × Listing) → State
state_with limit number next items =
    record { limit = limit; number = number; next = next; records = map listed_pair items }
