-- Values that are bound, and what is asked with them.
use Rattle.std.specs.Prelude.{◌≡◌, ◌⊎◌, ℕ, List, [], ◌∷◌, ◌++◌, length, Bool, true, false, nat_lt, Result, Ok, Err}
use Rattle.lq_value.specs.declared.refusal.Refusal.{Refusal}
use Rattle.lq_value.specs.declared.value.Value.{Value}
use Rattle.lq_value.specs.Refusal.{code_of}
use Rattle.lq_value.specs.Value.{text_refusal}
use Rattle.lq_script_request.specs.Request.{text_or}
use Rattle.lq_embed.specs.declared.bound_formula.Unbound.{Unbound}
use Rattle.lq_embed.specs.declared.bound_formula.Unbound.TheVariants.{NoValue, Refused, UnusedValue}
use Rattle.lq_embed.specs.declared.out_structs.FetchedOut.{FetchedOut}
use Rattle.lq_embed.specs.declared.out_structs.OpenOptions.{OpenOptions}
use Rattle.lq_embed.specs.declared.out_structs.OpeningOut.{OpeningOut}
use Rattle.lq_embed.specs.BoundFormula.{Binds}
use Rattle.lq_embed.specs.Calls.{Fetches, state_after_refusal}
use Rattle.lq_embed.specs.Opening.{OpensBy, asked_options}
use Rattle.lq_embed.specs.Requests.{fetch_request, in_utf8, open_request}
use Rattle.lq_embed.specs.SessionState.{SessionState, with_bound, with_fault, with_text}

-- ---- values

-- a text as a value, or why it is refused
abbrev pub bound_text : List ℕ → Result Value Refusal
bound_text text = in_utf8 text (text_or (text_refusal text) text)

-- A value is bound after the others, or memory runs out; or it is refused, and the others stay.
abbrev pub AddsValue : SessionState → SessionState → Result Value Refusal → ℕ → Type 0
AddsValue old new (Err refusal) status = (status ≡ code_of refusal) × (new ≡ old)
AddsValue old new (Ok value) status =
    ((status ≡ 0) × (new ≡ with_bound old (old.bound ++ value ∷ [])))
    ⊎ ((status ≡ 15) × (new ≡ old))

-- the same where there is room for it, and a refusal where there is none
abbrev pub BindsIn : Bool → SessionState → SessionState → Result Value Refusal → ℕ → Type 0
BindsIn true old new value status = AddsValue old new value status
BindsIn false old new value status = (status ≡ 40) × (new ≡ old)

abbrev pub BindsValue : SessionState → SessionState → Result Value Refusal → ℕ → Type 0
BindsValue old new value status = BindsIn (nat_lt (length old.bound) 256) old new value status

-- ---- calls with values

-- the status of a formula whose values can't be put in place
abbrev pub unbound_status : Unbound → ℕ
unbound_status (Refused refusal) = code_of refusal
unbound_status (NoValue number) = 43
unbound_status (UnusedValue number) = 44

-- the state after it: the place of its fault is kept
abbrev pub state_after_unbound : Unbound → SessionState → SessionState
state_after_unbound (Refused refusal) s = state_after_refusal refusal s
state_after_unbound (NoValue number) s = with_fault s number
state_after_unbound (UnusedValue number) s = with_fault s number

-- the state without bound values and without a text
abbrev pub taken_off : SessionState → SessionState
taken_off s = with_text (with_bound s []) []

-- an opening of the formula with its values, which is the text afterwards
abbrev pub OpensText : SessionState → SessionState → OpenOptions → Result (List ℕ) Unbound → ℕ
    → OpeningOut → OpeningOut → Type 0
OpensText old new options (Ok text) status before after =
    (opened : SessionState) × (new ≡ with_text opened text)
    × OpensBy (taken_off old) opened old.pushed options
    (open_request text (asked_options options)) status before after
OpensText old new options (Err e) status before after = (status ≡ unbound_status e)
    × (after ≡ before) × (new ≡ state_after_unbound e (taken_off old))

-- an opening of a formula by the bound values, which are taken off in each case
pub record OpensBound (old new : SessionState) (options : OpenOptions) (formula : List ℕ)
    (status : ℕ) (before after : OpeningOut) : Type 0 where
  pub outcome : Result (List ℕ) Unbound
  pub binds : Binds old.bound formula outcome
  pub opens : OpensText old new options outcome status before after

-- a fetch by the formula with its values, which is the text afterwards
abbrev pub FetchesText : SessionState → SessionState → Result (List ℕ) Unbound → ℕ → FetchedOut
    → FetchedOut → Type 0
FetchesText old new (Ok text) status before after =
    (fetched : SessionState) × (new ≡ with_text fetched text)
    × Fetches (taken_off old) fetched old.pushed (fetch_request text) status before after
FetchesText old new (Err e) status before after = (status ≡ unbound_status e) × (after ≡ before)
    × (new ≡ state_after_unbound e (taken_off old))

-- a fetch by a formula and the bound values, which are taken off in each case
pub record FetchesBound (old new : SessionState) (formula : List ℕ) (status : ℕ)
    (before after : FetchedOut) : Type 0 where
  pub outcome : Result (List ℕ) Unbound
  pub binds : Binds old.bound formula outcome
  pub fetches : FetchesText old new outcome status before after
