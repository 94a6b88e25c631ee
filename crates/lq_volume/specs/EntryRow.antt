-- What a predicate sees of an entry: its record, as a change leaves it.
use Rattle.std.specs.Prelude.{◌≡◌, ◌<◌, ◌^◌, ℕ, pos, [], Bool, true, false, ◌&&◌, ◌||◌, ◌==◌, Option, is_some}
use Rattle.std.specs.Borrow.{Bor}
use Rattle.std.specs.Option.{option_map_or}
use Rattle.std.specs.Str.{bytes_eq}
use Rattle.lq_value.specs.declared.kind.Kind.TheVariants.{File}
use Rattle.lq_volume.specs.declared.change.Change.{Change}
use Rattle.lq_volume.specs.declared.change.Change.TheVariants.{Create, Remove, Move, Write, SetAttr, RemoveAttr}
use Rattle.lq_volume.specs.Change.{at_place, rewritten, set_attr, remove_attr}
use Rattle.lq_volume.specs.State.{Record}

-- a record as a change to it leaves it; what a creation leaves is in the change alone
abbrev pub changed_record : Change → Record → Record
changed_record (Create dir name kind size time) r =
    record { dir = dir; name = name; kind = kind; size = size; time = time; attrs = [] }
changed_record (Remove node) r = r
changed_record (Move node dir name clobber) r = at_place dir name r
changed_record (Write node size time) r = rewritten size time r
changed_record (SetAttr node attr value) r = set_attr attr value r
changed_record (RemoveAttr node attr) r = remove_attr attr r

-- stands for the record of an entry that has none yet
abbrev pub no_record : Record
no_record = record { dir = 0; name = []; kind = File; size = 0; time = pos 0; attrs = [] }

-- the record of an entry before a change
abbrev pub record_before : Option (Bor Record) → Record
record_before stored = option_map_or (λ r. r.now) stored no_record

-- what a view of an entry shows: its record, as it is or as a change leaves it
abbrev pub view_of : Option (Bor Record) → Option (Bor Change) → Record
view_of stored change =
    option_map_or (λ c. changed_record c.now) change (λ r. r) (record_before stored)

-- whether the change creates an entry
abbrev pub creates : Change → Bool
creates (Create dir name kind size time) = true
creates c = false

-- the size that the change gives, 0 where it gives none
abbrev pub size_given : Change → ℕ
size_given (Create dir name kind size time) = size
size_given (Write node size time) = size
size_given c = 0

-- the entry has a record or the change creates it, and its size fits into an i64
pub record IsEntryRow (stored : Option (Bor Record)) (change : Option (Bor Change)) : Type 0 where
  pub there : (is_some stored || option_map_or (λ c. creates c.now) change false) ≡ true
  pub fits : option_map_or (λ c. size_given c.now) change 0 < 2 ^ 63

-- whether both records have the same folder and the same name
abbrev pub has_same_place : Record → Record → Bool
has_same_place a b = (a.dir == b.dir) && bytes_eq a.name b.name
