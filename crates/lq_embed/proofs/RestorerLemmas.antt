-- What a call of a restore gives, from what its parts gave.
use Rattle.std.proofs.Common.{◌≡◌, ◌∙◌, ℕ, ℤ, List, [], refl, sym, ap, subst, true, false, inl, inr}
use Rattle.std.specs.Prelude.{Bool, ◌⊎◌, Option, None, Some, unwrap_or, Result, Ok, Err, if◌then◌else◌}
use Rattle.std.specs.Str.{IsUtf8}
use Rattle.lq_value.specs.declared.kind.Kind.{Kind}
use Rattle.lq_value.specs.declared.refusal.Refusal.{Refusal}
use Rattle.lq_value.specs.declared.refusal.Refusal.TheVariants as refusal
use Rattle.lq_value.specs.Name.{is_name}
use Rattle.lq_value.specs.Refusal.{code_of}
use Rattle.lq_volume.specs.Attributes.{Attributes}
use Rattle.lq_volume.specs.declared.change.Change.TheVariants.{SetAttr}
use Rattle.lq_desk_world.specs.declared.event.Event.TheVariants.{Change}
use Rattle.lq_script_request.specs.declared.request.Request.TheVariants.{Event}
use Rattle.lq_value.specs.declared.value.Value.{Value}
use Rattle.lq_volume.specs.declared.restore_fault.RestoreFault.{RestoreFault}
use Rattle.lq_volume.specs.declared.restore_fault.RestoreFault.TheVariants.{NoMemory}
use Rattle.lq_script_request.specs.declared.request.Request.{Request}
use Rattle.lq_embed.specs.Numbers.{kind_numbered}
use Rattle.lq_embed.specs.Outcome.{Gives}
use Rattle.lq_embed.specs.Restorer.{Restored, attr_outcome, entry_outcome, fault_code, named_outcome, push_outcome, unless_fault, with_value, without_attrs}
use Rattle.lq_embed.proofs.CallLemmas.{if-not_utf8, if-utf8}

-- ---- outcomes

-- for want of memory, whatever the outcome
pub gives-memory : {T : Type 0} (outcome : Result T ℕ) (old : T) (status : ℕ) → status ≡ 15
    → Gives outcome old old status
gives-memory (Ok after) old status code = inr (code, refl)
gives-memory (Err number) old status code = (inr code, refl)

-- another outcome that is the same
pub gives-as : {T : Type 0} (one other : Result T ℕ) (old new : T) (status : ℕ) → one ≡ other
    → Gives other old new status → Gives one old new status
gives-as one other old new status same gives =
    subst (λ (o : Result _ ℕ). Gives o old new status) (sym same) gives

-- a number
pub gives-number : {T : Type 0} (outcome : Result T ℕ) (number : ℕ) (old : T) (status : ℕ)
    → outcome ≡ Err number → status ≡ number → Gives outcome old old status
gives-number outcome number old status same code =
    gives-as outcome (Err number) old old status same (inl code, refl)

-- ---- faults

-- no fault
pub gives-done : {T : Type 0} (fault : Option RestoreFault) (after old new : T) (status : ℕ)
    → fault ≡ None → new ≡ after → status ≡ 0 → Gives (unless_fault fault after) old new status
gives-done fault after old new status none is code =
    gives-as (unless_fault fault after) (Ok after) old new status
    (ap (λ (f : Option RestoreFault). unless_fault f after) none) (inl (code, is))

-- the first fault, or memory ran out
pub gives-fault : {T : Type 0} (fault : Option RestoreFault) (after old : T) (e : RestoreFault)
    (status : ℕ) → (e ≡ NoMemory) ⊎ (fault ≡ Some e) → status ≡ fault_code e
    → Gives (unless_fault fault after) old old status
gives-fault fault after old e status (inl out) code =
    gives-memory (unless_fault fault after) old status (code ∙ ap fault_code out)
gives-fault fault after old e status (inr first) code =
    gives-number (unless_fault fault after) (fault_code e) old status
    (ap (λ (f : Option RestoreFault). unless_fault f after) first) code

-- ---- attributes

-- a request that is refused
pub gives-refused : (r : Restored) (q : Result Request Refusal) (e : Refusal) (status : ℕ)
    → q ≡ Err e → status ≡ code_of e → Gives (attr_outcome r q) r r status
gives-refused r q e status same code =
    gives-number (attr_outcome r q) (code_of e) r status (ap (attr_outcome r) same) code

-- the same, or memory ran out
pub gives-unread : (r : Restored) (q : Result Request Refusal) (e : Refusal) (status : ℕ)
    → (e ≡ refusal.NoMemory) ⊎ (q ≡ Err e) → status ≡ code_of e
    → Gives (attr_outcome r q) r r status
gives-unread r q e status (inl out) code =
    gives-memory (attr_outcome r q) r status (code ∙ ap code_of out)
gives-unread r q e status (inr same) code = gives-refused r q e status same code

-- a request that sets an attribute, which is added
pub gives-set : (r new : Restored) (q : Result Request Refusal) (request : Request) (node : ℕ)
    (attr : List ℕ) (value : Value) (status : ℕ) → q ≡ Ok request
    → request ≡ Event (Change (SetAttr node attr value))
    → Gives (Ok (with_value r attr value)) r new status → Gives (attr_outcome r q) r new status
gives-set r new q request node attr value status asked is gives =
    gives-as (attr_outcome r q) (Ok (with_value r attr value)) r new status
    (ap (attr_outcome r) (asked ∙ ap (λ (it : Request). Ok it) is)) gives

-- ---- entries

-- the attributes that came before are gone
pub with-none : (r : Restored) (none : Attributes) (outcome : Result Restored ℕ) (status : ℕ)
    → none ≡ [] → Gives outcome (without_attrs r) (without_attrs r) status
    → Gives outcome (without_attrs r) (record { state = r.state; attrs = none }) status
with-none r none outcome status is gives =
    subst (λ (a : Attributes). Gives outcome (without_attrs r) (record {
      state = r.state;
      attrs = a;
    }) status) (sym is) gives

-- a name that isn't UTF-8
pub entry-not_utf8 : (r : Restored) (node dir : ℕ) (name : List ℕ) (kind size : ℕ) (time : ℤ)
    (status : ℕ) → ¬ IsUtf8 name → status ≡ 31
    → Gives (entry_outcome r node dir name kind size time) (without_attrs r) (without_attrs r)
    status
entry-not_utf8 r node dir name kind size time status not code =
    gives-number (entry_outcome r node dir name kind size time) 31 (without_attrs r) status
    (if-not_utf8 name _ _ not) code

-- a name that is, with the kind that its number is
pub entry-named : (r : Restored) (node dir : ℕ) (name : List ℕ) (kind size : ℕ) (time : ℤ)
    (k : Option Kind) (old new : Restored) (status : ℕ) → IsUtf8 name → kind_numbered kind ≡ k
    → Gives (named_outcome r node dir name k size time) old new status
    → Gives (entry_outcome r node dir name kind size time) old new status
entry-named r node dir name kind size time k old new status utf8 is gives =
    gives-as (entry_outcome r node dir name kind size time)
    (named_outcome r node dir name k size time) old new status
    (if-utf8 name _ _ utf8
    ∙ ap (λ (it : Option Kind). named_outcome r node dir name it size time) is) gives

-- a name that is refused
pub named-refused : (r : Restored) (node dir : ℕ) (name : List ℕ) (kind : Kind) (size : ℕ)
    (time : ℤ)
    (old : Restored) (e : Refusal) (status : ℕ)
    → e ≡ unwrap_or (if is_name name then None else Some refusal.BadName) refusal.NoMemory
    → status ≡ code_of e → Gives (named_outcome r node dir name (Some kind) size time) old old
    status
named-refused r node dir name kind size time old e status why code = at (is_name name) why
  where
    at : (b : Bool) → e ≡ unwrap_or (if b then None else Some refusal.BadName) refusal.NoMemory
        → Gives (if b then push_outcome r.state node (record {
          dir = dir;
          name = name;
          kind = kind;
          size = size;
          time = time;
          attrs = r.attrs;
        }) else Err 1) old old status
    at true is = gives-memory _ old status (code ∙ ap code_of is)
    at false is = (inl (code ∙ ap code_of is), refl)

-- a name that is one
pub named-pushed : (r : Restored) (node dir : ℕ) (name : List ℕ) (kind : Kind) (size : ℕ) (time : ℤ)
    (old new : Restored) (status : ℕ) → (if is_name name then None else Some refusal.BadName) ≡ None
    → Gives (push_outcome r.state node (record {
      dir = dir;
      name = name;
      kind = kind;
      size = size;
      time = time;
      attrs = r.attrs;
    })) old new status
    → Gives (named_outcome r node dir name (Some kind) size time) old new status
named-pushed r node dir name kind size time old new status fits gives = at (is_name name) fits
  where
    at : (b : Bool) → (if b then None else Some refusal.BadName) ≡ None
        → Gives (if b then push_outcome r.state node (record {
          dir = dir;
          name = name;
          kind = kind;
          size = size;
          time = time;
          attrs = r.attrs;
        }) else Err 1) old new status
    at true is = gives
    at false is = absurd (let no : ⊥ = cc in no)

-- an entry with a name and a kind, whose attributes came before
pub entry-pushed : (r new : Restored) (node dir : ℕ) (name given : List ℕ) (number : ℕ)
    (kind : Kind)
    (size : ℕ) (time at : ℤ) (attrs none : Attributes) (status : ℕ) → IsUtf8 name
    → kind_numbered number ≡ Some kind → given ≡ name
    → (if is_name given then None else Some refusal.BadName) ≡ None → at ≡ time → attrs ≡ r.attrs
    → none ≡ [] → Gives (push_outcome r.state node (record {
      dir = dir;
      name = given;
      kind = kind;
      size = size;
      time = at;
      attrs = attrs;
    })) (record { state = r.state; attrs = none }) new status
    → Gives (entry_outcome r node dir name number size time) (without_attrs r) new status
entry-pushed r new node dir name given number kind size time at attrs none status utf8 is same fits
    when
    its emptied gives =
    let pushes = λ (n : List ℕ) (t : ℤ) (a b : Attributes).
    Gives (push_outcome r.state node (record {
      dir = dir;
      name = n;
      kind = kind;
      size = size;
      time = t;
      attrs = a;
    })) (record { state = r.state; attrs = b }) new status in
    entry-named r node dir name number size time (Some kind) (without_attrs r) new status utf8 is
    (named-pushed r node dir name kind size time (without_attrs r) new status
    (subst (λ (n : List ℕ). (if is_name n then None else Some refusal.BadName) ≡ None) same fits)
    (subst (λ (b : Attributes). pushes name time r.attrs b) emptied
    (subst (λ (a : Attributes). pushes name time a none) its
    (subst (λ (t : ℤ). pushes name t attrs none) when
    (subst (λ (n : List ℕ). pushes n at attrs none) same gives)))))
