-- A look at an attribute by its name, by how its name is read.
use Rattle.std.proofs.Common.{◌≡◌, ◌∙◌, ℕ, List, refl, sym, ap, subst, true, false, None, Some, inl, inr}
use Rattle.std.specs.Prelude.{Bool, Option, Result, Err, unwrap_or, if◌then◌else◌}
use Rattle.std.specs.Str.{IsUtf8}
use Rattle.lq_value.specs.declared.refusal.Refusal.{Refusal}
use Rattle.lq_value.specs.declared.refusal.Refusal.TheVariants.{BadName, NoMemory}
use Rattle.lq_value.specs.declared.value.Value.{Value}
use Rattle.lq_value.specs.Name.{is_attr_name}
use Rattle.lq_value.specs.Refusal.{code_of}
use Rattle.lq_embed.specs.declared.out_structs.AttrOut.{AttrOut}
use Rattle.lq_embed.specs.Attrs.{ShowsAttr, ShowsNamed, attr_by_name, attr_with_name}
use Rattle.lq_embed.specs.SessionState.{SessionState, volume_in}
use Rattle.lq_embed.proofs.CallLemmas.{if-utf8}

-- why a name isn't read
abbrev pub name_fault : List ℕ → Option Refusal
name_fault text = if is_attr_name text then None else Some BadName

-- a look for another attribute that is the same
pub shows-as : {old new : SessionState} {a b : Result (List ℕ × Value) Refusal} {status : ℕ}
    {before after : AttrOut} → a ≡ b → ShowsAttr old new b status before after
    → ShowsAttr old new a status before after
shows-as {old = old} {new = new} {status = status} {before = before} {after = after} same was =
    subst (λ (r : Result (List ℕ × Value) Refusal). ShowsAttr old new r status before after)
    (sym same) was

-- a look that is refused before the volume is asked
pub shows-barred : {old : SessionState} {a : Result (List ℕ × Value) Refusal} {status : ℕ}
    {before : AttrOut} (refusal : Refusal) → a ≡ Err refusal → status ≡ code_of refusal
    → ShowsAttr old old a status before before
shows-barred refusal is code = shows-as is (record { code = code; out = refl; stays = refl })

-- one whose name isn't read
pub shows-unread : {old : SessionState} {status : ℕ} {before : AttrOut} (node : ℕ) (bytes : List ℕ)
    (e : Refusal) → IsUtf8 bytes → e ≡ unwrap_or (name_fault bytes) NoMemory
    → status ≡ code_of e
    → ShowsNamed old old (attr_by_name (volume_in old) node bytes) status before before
shows-unread {old = old} {status = status} {before = before} node bytes e utf8 why code =
    at (is_attr_name bytes) refl
  where
    at : (b : Bool) → is_attr_name bytes ≡ b
        → ShowsNamed old old (attr_by_name (volume_in old) node bytes) status before before
    at true is =
        let fault : unwrap_or (name_fault bytes) NoMemory ≡ NoMemory = rw is refl in
        inr (shows-barred NoMemory refl (code ∙ ap code_of (why ∙ fault)))
    at false is =
        let fault : unwrap_or (name_fault bytes) NoMemory ≡ BadName = rw is refl in
        let read : (if is_attr_name bytes then attr_with_name (volume_in old) node bytes
        else Err BadName) ≡ Err BadName = rw is refl in
        inl (shows-barred BadName (if-utf8 bytes _ _ utf8 ∙ read) (code ∙ ap code_of (why ∙ fault)))

-- one whose name is read
pub named-read : (s : SessionState) (node : ℕ) (bytes : List ℕ) → IsUtf8 bytes
    → name_fault bytes ≡ None
    → attr_by_name (volume_in s) node bytes ≡ attr_with_name (volume_in s) node bytes
named-read s node bytes utf8 read = at (is_attr_name bytes) refl
  where
    at : (b : Bool) → is_attr_name bytes ≡ b
        → attr_by_name (volume_in s) node bytes ≡ attr_with_name (volume_in s) node bytes
    at true is =
        let read : (if is_attr_name bytes then attr_with_name (volume_in s) node bytes
        else Err BadName) ≡ attr_with_name (volume_in s) node bytes = rw is refl in
        if-utf8 bytes _ _ utf8 ∙ read
    at false is = absurd (let no : ⊥ = cc in no)
