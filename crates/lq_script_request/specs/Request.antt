-- What a line of a script asks for, as a function of its JSON value.
use Rattle.std.specs.Prelude.{ℕ, ℤ, pos, negsuc, int_le, nat_le, ◌&&◌, List, Bool, false, Option, Some, None, ok_or, option_and_then, option_map, Result, Ok, Err, codes, if◌then◌else◌}
use Rattle.std.specs.Str.{bytes_eq, is_utf8}
use Rattle.serde_json.specs.Data.{Data}
use Rattle.serde_json.specs.Find.{get, as_bool, as_number, as_u64, as_i64, as_str}
use Rattle.serde_json.specs.Read.{read}
use Rattle.lq_value.specs.declared.refusal.Refusal.{Refusal}
use Rattle.lq_value.specs.declared.refusal.Refusal.TheVariants.{BadName, BadQuery, NotUtf8, NotJson, BadLine}
use Rattle.lq_value.specs.declared.kind.Kind.{Kind}
use Rattle.lq_value.specs.declared.kind.Kind.TheVariants.{File, Folder}
use Rattle.lq_value.specs.Name.{is_name, is_attr_name}
use Rattle.lq_value.specs.Value.{text_refusal}
use Rattle.lq_value.specs.declared.value.Value.{Value}
use Rattle.lq_value.specs.declared.value.Value.TheVariants.{Text, Int32, Int64, UInt32, UInt64}
use Rattle.lq_predicate.specs.Query.{Query}
use Rattle.lq_predicate.specs.Reading.{reading_of}
use Rattle.lq_volume.specs.declared.change.Change.TheVariants.{Create, Remove, Move, Write, SetAttr, RemoveAttr}
use Rattle.lq_desk_world.specs.declared.event.Event.TheVariants.{Change, OpenBy}
use Rattle.lq_desk_world.specs.Events.{OpenOptions, event_at}
use Rattle.lq_desk_world.specs.declared.event.Act.{Act}
use Rattle.lq_desk_world.specs.declared.event.Act.TheVariants as act
use Rattle.lq_script_request.specs.declared.request.Request.{Request}
use Rattle.lq_script_request.specs.declared.request.Request.TheVariants.{Event, Look}
use Rattle.lq_script_request.specs.declared.request.Look.TheVariants.{Find, Entry, Fetch, Rebuilt}

-- the value of a `set`: a text that isn't read yet, or a number of one of four types
pub data SetValue : Type 0 where
  given_text : (text : List ℕ) → SetValue
  given_number : (value : Value) → SetValue

-- what a line asks for, with its fields taken and its values not read yet
pub data RawAsked : Type 0 where
  asks_create : (dir : ℕ) (name : List ℕ) (kind : Kind) (size : ℕ) (time : ℤ) → RawAsked
  asks_remove : (node : ℕ) → RawAsked
  asks_move : (node dir : ℕ) (name : List ℕ) (clobber : Bool) → RawAsked
  asks_write : (node size : ℕ) (time : ℤ) → RawAsked
  asks_set : (node : ℕ) (attr : List ℕ) (value : SetValue) → RawAsked
  asks_unset : (node : ℕ) (attr : List ℕ) → RawAsked
  asks_open : (query : List ℕ) (options : OpenOptions) → RawAsked
  asks_at : (slot : ℕ) (a : Act) → RawAsked
  asks_find : (dir : ℕ) (name : List ℕ) → RawAsked
  asks_entry : (node : ℕ) → RawAsked
  asks_fetch : (query : List ℕ) → RawAsked
  asks_rebuilt : (slot : ℕ) → RawAsked

-- a text that is required
abbrev pub needed_text : List ℕ → Data → Option (List ℕ)
needed_text key d = option_and_then as_str (get key d)

-- a whole number from 0 up that is required
abbrev pub needed_u64 : List ℕ → Data → Option ℕ
needed_u64 key d = option_and_then as_u64 (option_and_then as_number (get key d))

-- a whole number from 0 up that may be absent, with a default
abbrev pub u64_or : ℕ → Option Data → Option ℕ
u64_or default None = Some default
u64_or default (Some d) = option_and_then as_u64 (as_number d)

-- a whole number that may be absent, with a default
abbrev pub i64_or : ℤ → Option Data → Option ℤ
i64_or default None = Some default
i64_or default (Some d) = option_and_then as_i64 (as_number d)

-- the kind that a text names
abbrev pub kind_named : List ℕ → Option Kind
kind_named text =
    if bytes_eq text (codes "file") then Some File
    else if bytes_eq text (codes "folder") then Some Folder
    else None

-- a kind that may be absent, with a default
abbrev pub kind_or : Kind → Option Data → Option Kind
kind_or default None = Some default
kind_or default (Some d) = option_and_then kind_named (as_str d)

-- a truth value that may be absent, with a default
abbrev pub flag_or : Bool → Option Data → Option Bool
flag_or default None = Some default
flag_or default (Some d) = as_bool d

-- a whole number of 32 bits with a sign
abbrev pub within_i32 : ℤ → Option SetValue
within_i32 n =
    if int_le (negsuc 2147483647) n && int_le n (pos 2147483647) then Some (given_number (Int32 n))
    else None

-- a whole number of 32 bits without a sign
abbrev pub within_u32 : ℕ → Option SetValue
within_u32 n = if nat_le n 4294967295 then Some (given_number (UInt32 n)) else None

-- the value of a `set`, by the text of `type`
abbrev pub given_by : List ℕ → Data → Option SetValue
given_by kind d =
    if bytes_eq kind (codes "CSTR") then option_map given_text (as_str d)
    else if bytes_eq kind (codes "LONG")
    then option_and_then within_i32 (option_and_then as_i64 (as_number d))
    else if bytes_eq kind (codes "LLNG")
    then option_map (λ n. given_number (Int64 n)) (option_and_then as_i64 (as_number d))
    else if bytes_eq kind (codes "ULNG")
    then option_and_then within_u32 (option_and_then as_u64 (as_number d))
    else if bytes_eq kind (codes "ULLG")
    then option_map (λ n. given_number (UInt64 n)) (option_and_then as_u64 (as_number d))
    else None

-- what a `move` asks for, if its fields are present
abbrev pub move_of : Data → Option RawAsked
move_of d =
    option_and_then (λ node.
    option_and_then (λ name.
    option_and_then (λ dir.
    option_map (λ clobber. asks_move node dir name clobber)
    (flag_or false (get (codes "clobber") d)))
    (u64_or 1 (get (codes "dir") d)))
    (needed_text (codes "name") d))
    (needed_u64 (codes "node") d)

-- what a `write` asks for
abbrev pub write_of : Data → Option RawAsked
write_of d =
    option_and_then (λ node.
    option_and_then (λ size.
    option_map (λ time. asks_write node size time)
    (i64_or (pos 0) (get (codes "time") d)))
    (needed_u64 (codes "size") d))
    (needed_u64 (codes "node") d)

-- what a `set` asks for
abbrev pub set_of : Data → Option RawAsked
set_of d =
    option_and_then (λ node.
    option_and_then (λ attr.
    option_and_then (λ kind.
    option_and_then (λ field.
    option_map (λ value. asks_set node attr value)
    (given_by kind field))
    (get (codes "value") d))
    (needed_text (codes "type") d))
    (needed_text (codes "attr") d))
    (needed_u64 (codes "node") d)

-- what an `unset` asks for
abbrev pub unset_of : Data → Option RawAsked
unset_of d =
    option_and_then (λ node.
    option_map (λ attr. asks_unset node attr)
    (needed_text (codes "attr") d))
    (needed_u64 (codes "node") d)

-- what a `create` asks for
abbrev pub create_of : Data → Option RawAsked
create_of d =
    option_and_then (λ name.
    option_and_then (λ dir.
    option_and_then (λ kind.
    option_and_then (λ size.
    option_map (λ time. asks_create dir name kind size time)
    (i64_or (pos 0) (get (codes "time") d)))
    (u64_or 0 (get (codes "size") d)))
    (kind_or File (get (codes "kind") d)))
    (u64_or 1 (get (codes "dir") d)))
    (needed_text (codes "name") d)

-- what a `remove` asks for
abbrev pub remove_of : Data → Option RawAsked
remove_of d = option_map (λ node. asks_remove node) (needed_u64 (codes "node") d)

-- what an `open` asks for
abbrev pub open_of : Data → Option RawAsked
open_of d =
    option_and_then (λ query.
    option_and_then (λ port.
    option_and_then (λ backlog.
    option_and_then (λ moved.
    option_map (λ values. asks_open query (record {
      port = port;
      backlog = backlog;
      flags = record { moved = moved; values = values };
    }))
    (flag_or false (get (codes "values") d)))
    (flag_or false (get (codes "moved") d)))
    (needed_u64 (codes "backlog") d))
    (needed_u64 (codes "port") d))
    (needed_text (codes "query") d)

-- what an act at a slot asks for
abbrev pub act_asked : Act → Data → Option RawAsked
act_asked a d = option_map (λ slot. asks_at slot a) (needed_u64 (codes "slot") d)

-- what a `find` asks for
abbrev pub find_of : Data → Option RawAsked
find_of d =
    option_and_then (λ name.
    option_map (λ dir. asks_find dir name)
    (u64_or 1 (get (codes "dir") d)))
    (needed_text (codes "name") d)

-- what an `entry` asks for
abbrev pub entry_asked : Data → Option RawAsked
entry_asked d = option_map (λ node. asks_entry node) (needed_u64 (codes "node") d)

-- what a `fetch` asks for
abbrev pub fetch_of : Data → Option RawAsked
fetch_of d = option_map (λ query. asks_fetch query) (needed_text (codes "query") d)

-- what a `result` asks for
abbrev pub rebuilt_of : Data → Option RawAsked
rebuilt_of d = option_map (λ slot. asks_rebuilt slot) (needed_u64 (codes "slot") d)

-- what a line asks for, by the text of `do`
abbrev pub raw_asked_by : List ℕ → Data → Option RawAsked
raw_asked_by word d =
    if bytes_eq word (codes "create") then create_of d
    else if bytes_eq word (codes "remove") then remove_of d
    else if bytes_eq word (codes "move") then move_of d
    else if bytes_eq word (codes "write") then write_of d
    else if bytes_eq word (codes "set") then set_of d
    else if bytes_eq word (codes "unset") then unset_of d
    else if bytes_eq word (codes "open") then open_of d
    else if bytes_eq word (codes "read") then act_asked act.Take d
    else if bytes_eq word (codes "hang_up") then act_asked act.HangUp d
    else if bytes_eq word (codes "close") then act_asked act.Close d
    else if bytes_eq word (codes "finish") then act_asked act.Finish d
    else if bytes_eq word (codes "find") then find_of d
    else if bytes_eq word (codes "entry") then entry_asked d
    else if bytes_eq word (codes "fetch") then fetch_of d
    else if bytes_eq word (codes "result") then rebuilt_of d
    else None

-- what a JSON value asks for
abbrev pub raw_asked_of : Data → Option RawAsked
raw_asked_of d = option_and_then (λ word. raw_asked_by word d) (needed_text (codes "do") d)

-- what a text asks for; it may be no JSON, or ask for nothing
abbrev pub raw_asked_from : Option Data → Result RawAsked Refusal
raw_asked_from None = Err NotJson
raw_asked_from (Some d) = ok_or (raw_asked_of d) BadLine

-- what a line asks for; it may be no UTF-8
abbrev pub raw_asked_in : List ℕ → Result RawAsked Refusal
raw_asked_in line = if is_utf8 line then raw_asked_from (read line) else Err NotUtf8

-- an opening, or the refusal of its formula
abbrev pub opening_or : Result Query ℕ → OpenOptions → Result Request Refusal
opening_or (Err place) options = Err (BadQuery place)
opening_or (Ok q) options = Ok (Event (OpenBy q options))

-- a fetch, or the refusal of its formula
abbrev pub fetching_or : Result Query ℕ → Result Request Refusal
fetching_or (Err place) = Err (BadQuery place)
fetching_or (Ok q) = Ok (Look (Fetch q))

-- a text as a value, or its refusal
abbrev pub text_or : Option Refusal → List ℕ → Result Value Refusal
text_or None text = Ok (Text text)
text_or (Some e) text = Err e

-- a value, or the refusal of its text
abbrev pub value_for : SetValue → Result Value Refusal
value_for (given_text text) = text_or (text_refusal text) text
value_for (given_number value) = Ok value

-- a `set`, or the refusal of its value
abbrev pub setting_for : ℕ → List ℕ → Result Value Refusal → Result Request Refusal
setting_for node attr (Err e) = Err e
setting_for node attr (Ok value) = Ok (Event (Change (SetAttr node attr value)))

-- the request after its values are read, or the first refusal
abbrev pub request_for : RawAsked → Result Request Refusal
request_for (asks_create dir name kind size time) =
    if is_name name then Ok (Event (Change (Create dir name kind size time)))
    else Err BadName
request_for (asks_remove node) = Ok (Event (Change (Remove node)))
request_for (asks_move node dir name clobber) =
    if is_name name then Ok (Event (Change (Move node dir name clobber)))
    else Err BadName
request_for (asks_write node size time) = Ok (Event (Change (Write node size time)))
request_for (asks_set node attr value) =
    if is_attr_name attr then setting_for node attr (value_for value)
    else Err BadName
request_for (asks_unset node attr) =
    if is_attr_name attr then Ok (Event (Change (RemoveAttr node attr)))
    else Err BadName
request_for (asks_open query options) = opening_or (reading_of query) options
request_for (asks_at slot a) = Ok (Event (event_at slot a))
request_for (asks_find dir name) = if is_name name then Ok (Look (Find dir name)) else Err BadName
request_for (asks_entry node) = Ok (Look (Entry node))
request_for (asks_fetch query) = fetching_or (reading_of query)
request_for (asks_rebuilt slot) = Ok (Look (Rebuilt slot))

-- the request of a line that may be refused already
abbrev pub request_from : Result RawAsked Refusal → Result Request Refusal
request_from (Err e) = Err e
request_from (Ok a) = request_for a

-- the request of a line, or why it has none
abbrev pub request_in : List ℕ → Result Request Refusal
request_in line = request_from (raw_asked_in line)
