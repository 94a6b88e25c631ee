-- The text of a response: the compact text of a JSON value, with its keys in byte order, and LF.
use Rattle.std.specs.Prelude.{ℕ, Bool, List, [], ◌∷◌, ◌++◌, map, Option, Some, None, codes}
use Rattle.serde_json.specs.Data.{Data, number, unsigned, string, boolean, array, object, Members, member, no_members}
use Rattle.serde_json.specs.Find.{of_integer}
use Rattle.serde_json.specs.View.{items_of}
use Rattle.serde_json.specs.Written.{compact_text}
use Rattle.lq_value.specs.declared.entry.Entry.{Entry}
use Rattle.lq_value.specs.declared.refusal.Refusal.{Refusal}
use Rattle.lq_value.specs.declared.refusal.Refusal.TheVariants.{BadQuery}
use Rattle.lq_value.specs.declared.kind.Kind.{Kind}
use Rattle.lq_value.specs.declared.kind.Kind.TheVariants.{File, Folder}
use Rattle.lq_value.specs.declared.value.Value.{Value}
use Rattle.lq_value.specs.declared.value.Value.TheVariants.{Text, Int32, Int64, UInt32, UInt64}
use Rattle.lq_value.specs.Refusal.{code_of, refusal_name}
use Rattle.lq_volume.specs.declared.change.Applied.{Applied}
use Rattle.lq_volume.specs.State.{Record}
use Rattle.lq_update.specs.declared.message.Message.{Message}
use Rattle.lq_update.specs.declared.message.Opcode.{Opcode}
use Rattle.lq_update.specs.declared.message.Opcode.TheVariants.{Created, Removed, Moved, ValueChanged}
use Rattle.lq_update.specs.declared.mark.Mark.{Mark}
use Rattle.lq_update.specs.declared.mark.Cause.{Cause}
use Rattle.lq_update.specs.declared.mark.Cause.TheVariants.{Closed, HungUp, Overrun}
use Rattle.lq_update.specs.declared.parcel.Parcel.{Parcel}
use Rattle.lq_update.specs.declared.parcel.Parcel.TheVariants.{Update, Fin}
use Rattle.lq_desk_world.specs.Events as world
use Rattle.lq_desk_world.specs.Events.{Answer, Changed, Opened, Took, Empty, Ended, Asked, Noticed, Shut, Finished, Refused}
use Rattle.lq_script_desk.specs.Response.{Response, Answers, Refuses, Found, Listed, Fetched, Rebuilt}

abbrev pub count : ℕ → Data
count n = number (unsigned n)

abbrev pub word : List ℕ → Data
word text = string text

abbrev pub applied_data : Applied → Data
applied_data a =
    object (member (codes "change") (count a.change)
    (member (codes "node") (count a.node) no_members))

-- an entry of a list
abbrev pub entry_data : Entry → Data
entry_data e =
    object (member (codes "dir") (count e.dir)
    (member (codes "name") (word e.name)
    (member (codes "node") (count e.node) no_members)))

abbrev pub opened_data : ℕ → ℕ → List Entry → Data
opened_data slot at result =
    object (member (codes "at") (count at)
    (member (codes "result") (array (items_of (map entry_data result)))
    (member (codes "slot") (count slot) no_members)))

abbrev pub opcode_name : Opcode → List ℕ
opcode_name Created = codes "B_ENTRY_CREATED"
opcode_name Removed = codes "B_ENTRY_REMOVED"
opcode_name (Moved dir name) = codes "B_ENTRY_MOVED"
opcode_name (ValueChanged None) = codes "B_STAT_CHANGED"
opcode_name (ValueChanged (Some attribute)) = codes "B_ATTR_CHANGED"

-- the members of a message from its opcode on
abbrev pub numbered_members : Opcode → ℕ → Members
numbered_members op seq =
    member (codes "op") (word (opcode_name op))
    (member (codes "seq") (count seq)
    (member (codes "what") (word (codes "B_QUERY_UPDATE")) no_members))

-- the members of a message after its places
abbrev pub told_members : Message → Members
told_members m =
    member (codes "last") (boolean m.last)
    (member (codes "name") (word m.name)
    (member (codes "node") (count m.node) (numbered_members m.op m.seq)))

-- a message with one place, and one with the old place too
abbrev pub placed_data : Message → Data
placed_data m =
    object (member (codes "change") (count m.change)
    (member (codes "dir") (count m.dir) (told_members m)))

abbrev pub moved_data : Message → ℕ → List ℕ → Data
moved_data m dir name =
    object (member (codes "change") (count m.change)
    (member (codes "dir") (count m.dir)
    (member (codes "from_dir") (count dir)
    (member (codes "from_name") (word name) (told_members m)))))

-- a message of an attribute
abbrev pub attr_changed_data : Message → List ℕ → Data
attr_changed_data m attribute =
    object (member (codes "attr") (word attribute)
    (member (codes "change") (count m.change)
    (member (codes "dir") (count m.dir) (told_members m))))

abbrev pub data_by : Opcode → Message → Data
data_by Created m = placed_data m
data_by Removed m = placed_data m
data_by (Moved dir name) m = moved_data m dir name
data_by (ValueChanged None) m = placed_data m
data_by (ValueChanged (Some attribute)) m = attr_changed_data m attribute

abbrev pub message_data : Message → Data
message_data m = data_by m.op m

abbrev pub cause_name : Cause → List ℕ
cause_name Closed = codes "closed"
cause_name HungUp = codes "hung_up"
cause_name Overrun = codes "overrun"

abbrev pub mark_data : Mark → Data
mark_data m =
    object (member (codes "cause") (word (cause_name m.cause))
    (member (codes "change") (count m.change)
    (member (codes "seq") (count m.seq)
    (member (codes "what") (word (codes "END")) no_members))))

abbrev pub parcel_data : Parcel → Data
parcel_data (Update message) = message_data message
parcel_data (Fin mark) = mark_data mark

-- a read that gives no parcel
abbrev pub what_data : List ℕ → Data
what_data what = object (member (codes "what") (word what) no_members)

abbrev pub slot_data : ℕ → Data
slot_data slot = object (member (codes "slot") (count slot) no_members)

abbrev pub shut_data : ℕ → ℕ → Data
shut_data change slot =
    object (member (codes "change") (count change)
    (member (codes "slot") (count slot) no_members))

-- the place in a refusal, if it has one
abbrev pub place_of : Refusal → Option ℕ
place_of (BadQuery place) = Some place
place_of e = None

-- a refusal's number and name, and its place if it has one
abbrev pub fault_data : ℕ → List ℕ → Option ℕ → Data
fault_data code name None =
    object (member (codes "code") (count code)
    (member (codes "error") (word name) no_members))
fault_data code name (Some place) =
    object (member (codes "code") (count code)
    (member (codes "error") (word name)
    (member (codes "place") (count place) no_members)))

abbrev pub refusal_data : Refusal → Data
refusal_data e = fault_data (code_of e) (refusal_name e) (place_of e)

-- the reply to the event of a slot; no line asks for a put or a notice
abbrev pub answer_data : ℕ → Answer → Data
answer_data slot (Changed applied) = applied_data applied
answer_data slot (Opened opened at result) = opened_data opened at result
answer_data slot (world.Moved was) = slot_data slot
answer_data slot (Took parcel) = parcel_data parcel
answer_data slot Empty = what_data (codes "EMPTY")
answer_data slot Ended = what_data (codes "ENDED")
answer_data slot Asked = slot_data slot
answer_data slot (Noticed was) = slot_data slot
answer_data slot (Shut change) = shut_data change slot
answer_data slot Finished = slot_data slot
answer_data slot (Refused e) = refusal_data e

-- an attribute's type, and its value
abbrev pub type_name : Value → List ℕ
type_name (Text text) = codes "CSTR"
type_name (Int32 n) = codes "LONG"
type_name (Int64 n) = codes "LLNG"
type_name (UInt32 n) = codes "ULNG"
type_name (UInt64 n) = codes "ULLG"

abbrev pub value_data : Value → Data
value_data (Text text) = word text
value_data (Int32 n) = number (of_integer n)
value_data (Int64 n) = number (of_integer n)
value_data (UInt32 n) = count n
value_data (UInt64 n) = count n

abbrev pub attr_data : List ℕ × Value → Data
attr_data a =
    object (member (codes "name") (word a.0)
    (member (codes "type") (word (type_name a.1))
    (member (codes "value") (value_data a.1) no_members)))

abbrev pub kind_name : Kind → List ℕ
kind_name File = codes "file"
kind_name Folder = codes "folder"

-- the members of a whole entry after its name
abbrev pub sized_members : ℕ → Record → Members
sized_members node e =
    member (codes "node") (count node)
    (member (codes "size") (count e.size)
    (member (codes "time") (number (of_integer e.time)) no_members))

-- a whole entry
abbrev pub listing_data : ℕ → Record → Data
listing_data node e =
    object (member (codes "attrs") (array (items_of (map attr_data e.attrs)))
    (member (codes "dir") (count e.dir)
    (member (codes "kind") (word (kind_name e.kind))
    (member (codes "name") (word e.name) (sized_members node e)))))

abbrev pub found_data : ℕ → Data
found_data node = object (member (codes "node") (count node) no_members)

abbrev pub fetched_data : ℕ → List Entry → Data
fetched_data at result =
    object (member (codes "at") (count at)
    (member (codes "result") (array (items_of (map entry_data result))) no_members))

abbrev pub rebuilt_data : ℕ → List Entry → Bool → Data
rebuilt_data change result settled =
    object (member (codes "change") (count change)
    (member (codes "result") (array (items_of (map entry_data result)))
    (member (codes "settled") (boolean settled) no_members)))

abbrev pub response_data : Response → Data
response_data (Answers slot a) = answer_data slot a
response_data (Refuses e) = refusal_data e
response_data (Found node) = found_data node
response_data (Listed node e) = listing_data node e
response_data (Fetched at result) = fetched_data at result
response_data (Rebuilt change result settled) = rebuilt_data change result settled

abbrev pub reply_text : Response → List ℕ
reply_text r = compact_text (response_data r) ++ 10 ∷ []
