-- The fields of a line: for each of its keys what the last member with that key shows.
use Rattle.std.specs.Prelude.{◌≡◌, ℕ, List, codes, option_map, unwrap_or, if◌then◌else◌}
use Rattle.std.specs.Str.{bytes_eq}
use Rattle.serde_json.specs.Data.{Data, null}
use Rattle.serde_json.specs.Find.{get}
use Rattle.serde_json.specs.Read.{read}
use Rattle.lq_script_request.specs.Shown.{data_in, json_outline}
use Rattle.lq_script_request.specs.declared.field.Field.{Field}
use Rattle.lq_script_request.specs.declared.field.Field.TheVariants.{Absent}
use Rattle.lq_script_request.specs.declared.key.Key.{Key}
use Rattle.lq_script_request.specs.declared.key.Key.TheVariants as key
use Rattle.lq_script_request.specs.declared.fields.Fields.{Fields}

-- the text of a key
abbrev pub key_text : Key → List ℕ
key_text key.Do = codes "do"
key_text key.Dir = codes "dir"
key_text key.Name = codes "name"
key_text key.Kind = codes "kind"
key_text key.Size = codes "size"
key_text key.Time = codes "time"
key_text key.Node = codes "node"
key_text key.Attr = codes "attr"
key_text key.Type = codes "type"
key_text key.Value = codes "value"
key_text key.Query = codes "query"
key_text key.Port = codes "port"
key_text key.Backlog = codes "backlog"
key_text key.Moved = codes "moved"
key_text key.Values = codes "values"
key_text key.Slot = codes "slot"
key_text key.Clobber = codes "clobber"

-- what stands in the place of a key
abbrev pub field_at : Fields → Key → Field
field_at fields key.Do = fields.act
field_at fields key.Dir = fields.dir
field_at fields key.Name = fields.name
field_at fields key.Kind = fields.kind
field_at fields key.Size = fields.size
field_at fields key.Time = fields.time
field_at fields key.Node = fields.node
field_at fields key.Attr = fields.attr
field_at fields key.Type = fields.value_type
field_at fields key.Value = fields.given
field_at fields key.Query = fields.query
field_at fields key.Port = fields.port
field_at fields key.Backlog = fields.backlog
field_at fields key.Moved = fields.moved
field_at fields key.Values = fields.values
field_at fields key.Slot = fields.slot
field_at fields key.Clobber = fields.clobber

-- no field is found
abbrev pub AreAbsent : Fields → Type 0
AreAbsent fields = (key : Key) → field_at fields key ≡ Absent

-- each field shows the last member with its key, or there is no such member
abbrev pub Show : Fields → Data → Type 0
Show fields d =
    (key : Key) → data_in (field_at fields key) ≡ option_map json_outline (get (key_text key) d)

-- the data of the text whose fields they are
abbrev pub whole_data : Fields → Data
whole_data fields = unwrap_or (read fields.text.now) null

-- each field is the last member with its key
abbrev pub AreLastMembers : Fields → Type 0
AreLastMembers fields = Show fields (whole_data fields)

-- the fields once one more member is found; another key than those of lines changes nothing
abbrev pub updated : List ℕ → Field → Fields → Fields
updated key found fields = record fields {
  act = if bytes_eq key (codes "do") then found else fields.act;
  dir = if bytes_eq key (codes "dir") then found else fields.dir;
  name = if bytes_eq key (codes "name") then found else fields.name;
  kind = if bytes_eq key (codes "kind") then found else fields.kind;
  size = if bytes_eq key (codes "size") then found else fields.size;
  time = if bytes_eq key (codes "time") then found else fields.time;
  node = if bytes_eq key (codes "node") then found else fields.node;
  attr = if bytes_eq key (codes "attr") then found else fields.attr;
  value_type = if bytes_eq key (codes "type") then found else fields.value_type;
  given = if bytes_eq key (codes "value") then found else fields.given;
  query = if bytes_eq key (codes "query") then found else fields.query;
  port = if bytes_eq key (codes "port") then found else fields.port;
  backlog = if bytes_eq key (codes "backlog") then found else fields.backlog;
  moved = if bytes_eq key (codes "moved") then found else fields.moved;
  values = if bytes_eq key (codes "values") then found else fields.values;
  slot = if bytes_eq key (codes "slot") then found else fields.slot;
  clobber = if bytes_eq key (codes "clobber") then found else fields.clobber;
}
