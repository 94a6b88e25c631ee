-- A volume that is restored by calls: what there is of it so far, and the outcome of each call.
use Rattle.std.specs.Prelude.{ℕ, ℤ, List, [], ◌∷◌, ◌++◌, nat_lt, Option, None, Some, Result, Ok, Err, if◌then◌else◌}
use Rattle.std.specs.Str.{is_utf8}
use Rattle.lq_value.specs.declared.kind.Kind.{Kind}
use Rattle.lq_value.specs.declared.refusal.Refusal.{Refusal}
use Rattle.lq_value.specs.declared.value.Value.{Value}
use Rattle.lq_value.specs.Name.{is_name}
use Rattle.lq_value.specs.Refusal.{code_of}
use Rattle.lq_volume.specs.State as volume
use Rattle.lq_volume.specs.State.{Record}
use Rattle.lq_volume.specs.Attributes.{Attributes}
use Rattle.lq_volume.specs.Restore.{finish_faults, first_fault, push_faults, pushed, start_faults, started}
use Rattle.lq_volume.specs.declared.restore_fault.RestoreFault.{RestoreFault}
use Rattle.lq_volume.specs.declared.restore_fault.RestoreFault.TheVariants.{NumberOutOfRange, NodeOutOfRange, OutOfOrder, NameTaken, SizeOfFolder, TooLong, Reserved, NameTwice, NoFolder, NotFolder, Ring, NoMemory}
use Rattle.lq_volume.specs.declared.change.Change.TheVariants.{SetAttr}
use Rattle.lq_desk_world.specs.declared.event.Event.TheVariants.{Change}
use Rattle.lq_script_request.specs.declared.request.Request.{Request}
use Rattle.lq_script_request.specs.declared.request.Request.TheVariants.{Event}
use Rattle.lq_embed.specs.Numbers.{kind_numbered}
use Rattle.lq_embed.specs.SessionState.{SessionState, state_over}
use Rattle.lq_embed.specs.declared.restorer.Restorer.{Restorer}

-- a volume's numbers and its entries so far, and the attributes of the next entry in order
pub record Restored : Type 0 where
  pub state : volume.State
  pub attrs : Attributes

abbrev pub restores : Restorer → Restored
restores r = record { state = r.restoring; attrs = r.attrs.items }

-- before anything is restored: the volume with the root alone
abbrev pub first_restored : Restored
first_restored = record { state = volume.empty_state 1000000000000; attrs = [] }

-- the number of a fault
abbrev pub fault_code : RestoreFault → ℕ
fault_code NumberOutOfRange = 101
fault_code NodeOutOfRange = 102
fault_code OutOfOrder = 103
fault_code NameTaken = 104
fault_code SizeOfFolder = 105
fault_code TooLong = 106
fault_code Reserved = 107
fault_code NameTwice = 108
fault_code NoFolder = 109
fault_code NotFolder = 110
fault_code Ring = 111
fault_code NoMemory = 15

-- the first fault's number, or what there is without one
abbrev pub unless_fault : {T : Type 0} → Option RestoreFault → T → Result T ℕ
unless_fault None x = Ok x
unless_fault (Some fault) x = Err (fault_code fault)

-- ---- the numbers

abbrev pub begin_outcome : ℕ → ℕ → ℕ → Result Restored ℕ
begin_outcome limit number next =
    if nat_lt 1000000000000 limit then Err 101
    else unless_fault (first_fault (start_faults limit number next))
    (record { state = started limit number next; attrs = [] })

-- ---- the attributes of the next entry

abbrev pub with_value : Restored → List ℕ → Value → Restored
with_value r attr value = record { state = r.state; attrs = r.attrs ++ (attr, value) ∷ [] }

-- one more attribute, that of a request which sets it
abbrev pub attr_outcome : Restored → Result Request Refusal → Result Restored ℕ
attr_outcome r (Ok (Event (Change (SetAttr node attr value)))) = Ok (with_value r attr value)
attr_outcome r (Ok other) = Err 15
attr_outcome r (Err refusal) = Err (code_of refusal)

-- ---- an entry

-- what is left of an entry that was refused: its attributes are gone
abbrev pub without_attrs : Restored → Restored
without_attrs r = record { state = r.state; attrs = [] }

-- one more record
abbrev pub push_outcome : volume.State → ℕ → Record → Result Restored ℕ
push_outcome s node record_ = unless_fault (first_fault (push_faults s node record_))
    (record { state = pushed s node record_; attrs = [] })

-- the same of an entry with its name and the number of its kind, whose attributes came before
abbrev pub named_outcome : Restored → ℕ → ℕ → List ℕ → Option Kind → ℕ → ℤ → Result Restored ℕ
named_outcome r node dir name None size time = Err 33
named_outcome r node dir name (Some kind) size time =
    if is_name name
    then push_outcome r.state node (record {
      dir = dir;
      name = name;
      kind = kind;
      size = size;
      time = time;
      attrs = r.attrs;
    })
    else Err 1

abbrev pub entry_outcome : Restored → ℕ → ℕ → List ℕ → ℕ → ℕ → ℤ → Result Restored ℕ
entry_outcome r node dir name kind size time =
    if is_utf8 name then named_outcome r node dir name (kind_numbered kind) size time else Err 31

-- ---- the end

-- the first session over the volume
abbrev pub end_outcome : volume.State → Result SessionState ℕ
end_outcome s = unless_fault (first_fault (finish_faults s)) (state_over s)
