-- What a call writes for its caller, by the answer.
use Rattle.std.specs.Prelude.{ℕ, ℤ, pos, Some, None, List, [], ◌∷◌, ◌++◌, length, drop, false, nat_le, if◌then◌else◌}
use Rattle.lq_value.specs.declared.entry.Entry.{Entry}
use Rattle.lq_value.specs.declared.value.Value.{Value}
use Rattle.lq_value.specs.declared.value.Value.TheVariants as value
use Rattle.lq_volume.specs.State as volume
use Rattle.lq_volume.specs.State.{Record}
use Rattle.lq_update.specs.declared.message.Message.{Message}
use Rattle.lq_update.specs.declared.message.Opcode.{Opcode}
use Rattle.lq_update.specs.declared.message.Opcode.TheVariants as op
use Rattle.lq_update.specs.declared.mark.Mark.{Mark}
use Rattle.lq_update.specs.declared.mark.Cause.{Cause}
use Rattle.lq_update.specs.declared.mark.Cause.TheVariants as cause
use Rattle.lq_update.specs.declared.parcel.Parcel.TheVariants.{Update, Fin}
use Rattle.lq_desk_world.specs.Events.{Answer, Changed, Opened, Took, Shut}
use Rattle.lq_script_desk.specs.Answered.{entry_answer}
use Rattle.lq_script_desk.specs.Response.{Response, Found, Listed, Fetched, Rebuilt}
use Rattle.lq_embed.specs.Numbers.{number_of_kind}
use Rattle.lq_embed.specs.declared.out_structs.AppliedOut.{AppliedOut}
use Rattle.lq_embed.specs.declared.out_structs.OpeningOut.{OpeningOut}
use Rattle.lq_embed.specs.declared.out_structs.FetchedOut.{FetchedOut}
use Rattle.lq_embed.specs.declared.out_structs.RebuiltOut.{RebuiltOut}
use Rattle.lq_embed.specs.declared.out_structs.RowOut.{RowOut}
use Rattle.lq_embed.specs.declared.out_structs.MessageOut.{MessageOut}
use Rattle.lq_embed.specs.declared.out_structs.InfoOut.{InfoOut}
use Rattle.lq_embed.specs.declared.out_structs.AttrOut.{AttrOut}

-- ---- texts

-- room with a NUL at its front, if it isn't empty
abbrev pub nul_at_front : List ℕ → List ℕ
nul_at_front [] = []
nul_at_front (byte ∷ room) = 0 ∷ room

-- a text at the front of room, and a NUL after it, if they fit; room that is smaller than the text
-- stays
abbrev pub text_put : List ℕ → List ℕ → List ℕ
text_put text room =
    if nat_le (length text) (length room)
    then text ++ nul_at_front (drop (length text) room) else room

-- ---- changes and openings

abbrev pub applied_after : Answer → AppliedOut → AppliedOut
applied_after (Changed applied) out =
    record { change = applied.change; node = applied.node }
applied_after answer out = out

abbrev pub opening_after : Answer → OpeningOut → OpeningOut
opening_after (Opened slot at result) out =
    record { slot = slot; at = at; count = length result }
opening_after answer out = out

-- the last change that a closed subscription covers
abbrev pub change_after : Answer → ℕ → ℕ
change_after (Shut change) out = change
change_after answer out = out

-- ---- reads

abbrev pub number_of_op : Opcode → ℕ
number_of_op op.Created = 1
number_of_op op.Removed = 2
number_of_op (op.Moved from_dir from_name) = 3
number_of_op (op.ValueChanged None) = 4
number_of_op (op.ValueChanged (Some attribute)) = 5

abbrev pub from_dir_of : Opcode → ℕ
from_dir_of (op.Moved from_dir from_name) = from_dir
from_dir_of other = 0

abbrev pub from_name_of : Opcode → List ℕ
from_name_of (op.Moved from_dir from_name) = from_name
from_name_of other = []

-- the attribute that a message tells of; none, an empty text
abbrev pub attr_of_op : Opcode → List ℕ
attr_of_op (op.ValueChanged (Some attribute)) = attribute
attr_of_op other = []

abbrev pub number_of_cause : Cause → ℕ
number_of_cause cause.Closed = 1
number_of_cause cause.HungUp = 2
number_of_cause cause.Overrun = 3

abbrev pub message_after : Message → MessageOut → MessageOut
message_after m out = record {
  seq = m.seq;
  change = m.change;
  dir = m.dir;
  node = m.node;
  from_dir = from_dir_of m.op;
  what = 1;
  op = number_of_op m.op;
  cause = 0;
  last = m.last;
  name_size = length m.name;
  from_name_size = length (from_name_of m.op);
  attr_size = length (attr_of_op m.op);
  name = text_put m.name out.name;
  from_name = text_put (from_name_of m.op) out.from_name;
  attr = text_put (attr_of_op m.op) out.attr;
}

-- a mark has a `seq`, a change and a cause, and nothing else
abbrev pub mark_after : Mark → MessageOut → MessageOut
mark_after mark out = record {
  seq = mark.seq;
  change = mark.change;
  dir = 0;
  node = 0;
  from_dir = 0;
  what = 2;
  op = 0;
  cause = number_of_cause mark.cause;
  last = false;
  name_size = 0;
  from_name_size = 0;
  attr_size = 0;
  name = text_put [] out.name;
  from_name = text_put [] out.from_name;
  attr = text_put [] out.attr;
}

-- only a message or the mark is written
abbrev pub read_after : Answer → MessageOut → MessageOut
read_after (Took (Update m)) out = message_after m out
read_after (Took (Fin mark)) out = mark_after mark out
read_after answer out = out

-- ---- looks

abbrev pub node_after : Response → ℕ → ℕ
node_after (Found node) out = node
node_after response out = out

abbrev pub fetched_after : Response → FetchedOut → FetchedOut
fetched_after (Fetched at result) out = record { at = at; count = length result }
fetched_after response out = out

abbrev pub rebuilt_after : Response → RebuiltOut → RebuiltOut
rebuilt_after (Rebuilt change result settled) out =
    record { change = change; count = length result; settled = settled }
rebuilt_after response out = out

abbrev pub info_after : Response → InfoOut → InfoOut
info_after (Listed node r) out = record {
  dir = r.dir;
  node = node;
  size = r.size;
  time = r.time;
  kind = number_of_kind r.kind;
  attr_count = length r.attrs;
  name_size = length r.name;
  name = text_put r.name out.name;
}
info_after response out = out

-- what a look at an entry's node shows: its kind, size and time; 2 and 0 where it is gone
abbrev pub kind_in : Response → ℕ
kind_in (Listed node r) = number_of_kind r.kind
kind_in response = 2

abbrev pub size_in : Response → ℕ
size_in (Listed node r) = r.size
size_in response = 0

abbrev pub time_in : Response → ℤ
time_in (Listed node r) = r.time
time_in response = pos 0

-- an entry of a result, with what the volume shows of its node
abbrev pub row_after : volume.State → Entry → RowOut → RowOut
row_after s e out = record {
  dir = e.dir;
  node = e.node;
  size = size_in (entry_answer s e.node);
  time = time_in (entry_answer s e.node);
  kind = kind_in (entry_answer s e.node);
  name_size = length e.name;
  name = text_put e.name out.name;
}

-- ---- attributes

-- the number of an attribute's type
abbrev pub number_of_type : Value → ℕ
number_of_type (value.Text text) = 1129534546
number_of_type (value.Int32 n) = 1280265799
number_of_type (value.Int64 n) = 1280069191
number_of_type (value.UInt32 n) = 1431064135
number_of_type (value.UInt64 n) = 1431063623

abbrev pub whole_of : Value → ℤ
whole_of (value.Int32 n) = n
whole_of (value.Int64 n) = n
whole_of other = pos 0

abbrev pub natural_of : Value → ℕ
natural_of (value.UInt32 n) = n
natural_of (value.UInt64 n) = n
natural_of other = 0

abbrev pub text_of : Value → List ℕ
text_of (value.Text text) = text
text_of other = []

abbrev pub attr_after : List ℕ → Value → AttrOut → AttrOut
attr_after name v out = record {
  kind = number_of_type v;
  whole = whole_of v;
  natural = natural_of v;
  name_size = length name;
  text_size = length (text_of v);
  name = text_put name out.name;
  text = text_put (text_of v) out.text;
}
