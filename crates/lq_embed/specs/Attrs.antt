-- The attributes of an entry, by index and by name.
use Rattle.std.specs.Prelude.{◌≡◌, ◌⊎◌, ℕ, List, Option, Some, None, Result, Ok, Err, ok_or, option_and_then, slice_get, if◌then◌else◌}
use Rattle.std.specs.Option.{option_map}
use Rattle.std.specs.Str.{is_utf8}
use Rattle.lq_value.specs.declared.refusal.Refusal.{Refusal}
use Rattle.lq_value.specs.declared.refusal.Refusal.TheVariants.{BadName, NoAttr, NoMemory, NotUtf8}
use Rattle.lq_value.specs.declared.value.Value.{Value}
use Rattle.lq_value.specs.Name.{is_attr_name}
use Rattle.lq_value.specs.Refusal.{first_refusal}
use Rattle.lq_volume.specs.State as volume
use Rattle.lq_volume.specs.State.{Record, record_at}
use Rattle.lq_volume.specs.Attributes.{value_of}
use Rattle.lq_volume.specs.Lookup.{entry_refusals}
use Rattle.lq_embed.specs.declared.out_structs.AttrOut.{AttrOut}
use Rattle.lq_embed.specs.Outs.{attr_after}
use Rattle.lq_embed.specs.SessionState.{SessionState}
use Rattle.lq_embed.specs.Status.{outcome_status}

-- an attribute of an entry, if it is there, unless the look-up of the entry is refused
abbrev pub unless_refused : Option Refusal → Option (List ℕ × Value)
    → Result (List ℕ × Value) Refusal
unless_refused (Some refusal) attr = Err refusal
unless_refused None attr = ok_or attr NoAttr

-- the attribute at an index, from 0
abbrev pub attr_by_index : volume.State → ℕ → ℕ → Result (List ℕ × Value) Refusal
attr_by_index s node index = unless_refused (first_refusal (entry_refusals s node))
    (option_and_then (λ r. slice_get r.attrs index) (record_at s node))

-- the attribute with a name
abbrev pub attr_with_name : volume.State → ℕ → List ℕ → Result (List ℕ × Value) Refusal
attr_with_name s node name = unless_refused (first_refusal (entry_refusals s node))
    (option_and_then (λ r. option_map (λ v. (name, v)) (value_of r.attrs name)) (record_at s node))

-- the same of bytes that may be no name
abbrev pub attr_by_name : volume.State → ℕ → List ℕ → Result (List ℕ × Value) Refusal
attr_by_name s node bytes =
    if is_utf8 bytes
    then (if is_attr_name bytes then attr_with_name s node bytes else Err BadName)
    else Err NotUtf8

-- what a look at an attribute writes
abbrev pub attr_out : Result (List ℕ × Value) Refusal → AttrOut → AttrOut
attr_out (Err refusal) out = out
attr_out (Ok attr) out = attr_after attr.0 attr.1 out

-- a look at an attribute
pub record ShowsAttr (old new : SessionState) (attr : Result (List ℕ × Value) Refusal) (status : ℕ)
    (before after : AttrOut) : Type 0 where
  pub code : status ≡ outcome_status attr
  pub out : after ≡ attr_out attr before
  pub stays : new ≡ old

-- the same, or memory ran out
abbrev pub ShowsNamed : SessionState → SessionState → Result (List ℕ × Value) Refusal → ℕ
    → AttrOut → AttrOut → Type 0
ShowsNamed old new attr status before after = ShowsAttr old new attr status before after
    ⊎ ShowsAttr old new (Err NoMemory) status before after
