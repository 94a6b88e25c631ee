-- A text that is bound as a value.
use Rattle.std.proofs.Common.{◌≡◌, ◌∙◌, ◌<◌, ℕ, true, List, length, Option, None, Some, Result, Ok, Err, refl, sym, ap, subst, arith, inr}
use Rattle.std.specs.Prelude.{nat_lt, unwrap_or}
use Rattle.std.specs.Str.{IsUtf8}
use Rattle.lq_value.specs.declared.refusal.Refusal.{Refusal}
use Rattle.lq_value.specs.declared.refusal.Refusal.TheVariants.{NoMemory, NotUtf8}
use Rattle.lq_value.specs.declared.value.Value.{Value}
use Rattle.lq_value.specs.declared.value.Value.TheVariants.{Text}
use Rattle.lq_value.specs.Refusal.{code_of}
use Rattle.lq_value.specs.Value.{text_refusal}
use Rattle.lq_script_request.specs.Request.{text_or}
use Rattle.lq_embed.specs.Bound.{AddsValue, BindsIn, BindsValue, bound_text}
use Rattle.lq_embed.specs.SessionState.{SessionState}
use Rattle.lq_embed.proofs.CallLemmas.{if-not_utf8, if-utf8}

-- the test of the room
has_room : (n : ℕ) → n < 256 → nat_lt n 256 ≡ true
has_room n lt = grind (arith, lt)

-- a value where there is room for it
pub binds-in : (old new : SessionState) (value : Result Value Refusal) (status : ℕ)
    → length old.bound < 256 → AddsValue old new value status → BindsValue old new value status
binds-in old new value status room adds =
    subst (λ t. BindsIn t old new value status) (sym (has_room (length old.bound) room)) adds

-- a text that isn't UTF-8
pub adds-not_utf8 : (old : SessionState) (text : List ℕ) (status : ℕ) → ¬ IsUtf8 text
    → status ≡ code_of NotUtf8 → AddsValue old old (bound_text text) status
adds-not_utf8 old text status not code =
    subst (λ v. AddsValue old old v status) (sym (if-not_utf8 text _ (Err NotUtf8) not))
    (code, refl)

-- the value of a text that is one
text_is : (text : List ℕ) → IsUtf8 text → bound_text text ≡ text_or (text_refusal text) text
text_is text utf8 = if-utf8 text _ (Err NotUtf8) utf8

-- a text that is refused as a value
refused_by : (old : SessionState) (text : List ℕ) (refusal : Option Refusal) (e : Refusal)
    (status : ℕ) → e ≡ unwrap_or refusal NoMemory → status ≡ code_of e
    → AddsValue old old (text_or refusal text) status
refused_by old text None e status is code = inr (code ∙ ap code_of is, refl)
refused_by old text (Some x) e status is code = (code ∙ ap code_of is, refl)

-- a text that is too long, or has no memory
pub adds-refused : (old : SessionState) (text bytes : List ℕ) (e : Refusal) (status : ℕ)
    → IsUtf8 text → bytes ≡ text → e ≡ unwrap_or (text_refusal bytes) NoMemory
    → status ≡ code_of e → AddsValue old old (bound_text text) status
adds-refused old text bytes e status utf8 same is code =
    subst (λ v. AddsValue old old v status) (sym (text_is text utf8))
    (refused_by old text (text_refusal text) e status
    (is ∙ ap (λ t. unwrap_or (text_refusal t) NoMemory) same) code)

-- a text that is a value
pub binds-text : (old new : SessionState) (text bytes : List ℕ) (value : Value) (status : ℕ)
    → IsUtf8 text → bytes ≡ text → text_refusal bytes ≡ None → value ≡ Text bytes
    → BindsValue old new (Ok value) status → BindsValue old new (bound_text text) status
binds-text old new text bytes value status utf8 same fits is binds =
    subst (λ v. BindsValue old new v status)
    (ap (λ v. Ok v) (is ∙ ap Text same)
    ∙ sym (text_is text utf8 ∙ ap (λ r. text_or r text) (ap text_refusal (sym same) ∙ fits))) binds
