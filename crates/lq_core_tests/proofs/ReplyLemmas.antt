-- No reply has a float, so its text is a function of its value.
use Rattle.std.proofs.Common.{◌≡◌, ℕ, List, [], ◌∷◌, map, false, refl, Some, None, Option}
use Rattle.std.specs.Prelude.{ℤ, pos, negsuc}
use Rattle.serde_json.specs.Data.{number}
use Rattle.serde_json.specs.Find.{of_integer}
use Rattle.serde_json.specs.View.{items_of}
use Rattle.serde_json.specs.Written.{has_float, items_have_float}
use Rattle.lq_value.specs.declared.entry.Entry.{Entry}
use Rattle.lq_value.specs.declared.value.Value.{Value}
use Rattle.lq_value.specs.declared.value.Value.TheVariants.{Text, Int32, Int64, UInt32, UInt64}
use Rattle.lq_value.specs.Refusal.{code_of, refusal_name}
use Rattle.lq_update.specs.declared.message.Message.{Message}
use Rattle.lq_update.specs.declared.message.Opcode.{Opcode}
use Rattle.lq_update.specs.declared.message.Opcode.TheVariants.{Created, Removed, Moved, ValueChanged}
use Rattle.lq_update.specs.declared.parcel.Parcel.TheVariants.{Update, Fin}
use Rattle.lq_desk_world.specs.Events as world
use Rattle.lq_desk_world.specs.Events.{Answer, Changed, Opened, Took, Empty, Ended, Asked, Noticed, Shut, Finished, Refused}
use Rattle.lq_script_desk.specs.Reply.{answer_data, attr_data, data_by, entry_data, fault_data, place_of, response_data, value_data}
use Rattle.lq_script_desk.specs.Response.{Response, Answers, Refuses, Found, Listed, Fetched, Rebuilt}

-- a whole number has no float
integer-no_float : (n : ℤ) → has_float (number (of_integer n)) ≡ false
integer-no_float (pos n) = refl
integer-no_float (negsuc n) = refl

-- a list of entries has no float
entries-no_float : (entries : List Entry)
    → items_have_float (items_of (map entry_data entries)) ≡ false
entries-no_float [] = refl
entries-no_float (e ∷ entries) = entries-no_float entries

-- a refusal's reply has no float
fault-no_float : (code : ℕ) (name : List ℕ) (place : Option ℕ)
    → has_float (fault_data code name place) ≡ false
fault-no_float code name None = refl
fault-no_float code name (Some place) = refl

-- an attribute's value has no float
value-no_float : (v : Value) → has_float (value_data v) ≡ false
value-no_float (Text text) = refl
value-no_float (Int32 n) = integer-no_float n
value-no_float (Int64 n) = integer-no_float n
value-no_float (UInt32 n) = refl
value-no_float (UInt64 n) = refl

-- a list of attributes has no float
attrs-no_float : (attrs : List (List ℕ × Value))
    → items_have_float (items_of (map attr_data attrs)) ≡ false
attrs-no_float [] = refl
attrs-no_float (a ∷ attrs) = rw (value-no_float a.1) (attrs-no_float attrs)

-- a message has no float
told-no_float : (op : Opcode) (m : Message) → has_float (data_by op m) ≡ false
told-no_float Created m = refl
told-no_float Removed m = refl
told-no_float (Moved dir name) m = refl
told-no_float (ValueChanged None) m = refl
told-no_float (ValueChanged (Some attribute)) m = refl

-- the reply to a take has no float
answer-no_float : (slot : ℕ) (a : Answer) → has_float (answer_data slot a) ≡ false
answer-no_float slot (Changed applied) = refl
answer-no_float slot (Opened opened at result) = rw (entries-no_float result) refl
answer-no_float slot (world.Moved was) = refl
answer-no_float slot (Took (Update message)) = told-no_float message.op message
answer-no_float slot (Took (Fin mark)) = refl
answer-no_float slot Empty = refl
answer-no_float slot Ended = refl
answer-no_float slot Asked = refl
answer-no_float slot (Noticed was) = refl
answer-no_float slot (Shut change) = refl
answer-no_float slot Finished = refl
answer-no_float slot (Refused e) = fault-no_float (code_of e) (refusal_name e) (place_of e)

-- no reply has a float
pub response-no_float : (r : Response) → has_float (response_data r) ≡ false
response-no_float (Answers slot a) = answer-no_float slot a
response-no_float (Refuses e) = fault-no_float (code_of e) (refusal_name e) (place_of e)
response-no_float (Found node) = refl
response-no_float (Listed node e) = rw (attrs-no_float e.attrs, integer-no_float e.time) refl
response-no_float (Fetched at result) = rw (entries-no_float result) refl
response-no_float (Rebuilt change result settled) = rw (entries-no_float result) refl
