-- What a call did, from what its parts did.
use Rattle.std.proofs.Common.{◌≡◌, ◌∙◌, ℕ, List, refl, sym, ap, subst, true, false, inl, inr}
use Rattle.std.specs.Prelude.{Bool, ◌==◌, Option, None, Some, unwrap_or, Result, Ok, Err, if◌then◌else◌}
use Rattle.std.specs.Str.{IsUtf8, is_utf8}
use Rattle.std.proofs.lemmas.Str.{IsUtf8-from_is_utf8, is_utf8-from_IsUtf8}
use Rattle.lq_value.specs.declared.refusal.Refusal.{Refusal}
use Rattle.lq_value.specs.declared.refusal.Refusal.TheVariants.{BadQuery, NotUtf8}
use Rattle.lq_value.specs.Refusal.{code_of}
use Rattle.lq_predicate.specs.Stacked.{Stacked}
use Rattle.lq_script_desk.specs.Session.{Session}
use Rattle.lq_desk_world.specs.Events.{Answer, Opened, Refused}
use Rattle.lq_script_request.specs.declared.request.Request.{Request}
use Rattle.lq_script_desk.specs.Response.{Response, Refuses}
use Rattle.lq_embed.specs.declared.out_structs.AppliedOut.{AppliedOut}
use Rattle.lq_embed.specs.declared.out_structs.OpeningOut.{OpeningOut}
use Rattle.lq_embed.specs.declared.out_structs.FetchedOut.{FetchedOut}
use Rattle.lq_script_desk.specs.Answered.{Responds}
use Rattle.lq_embed.specs.Calls.{Asks, Changes, Fetches, FindsNode, Opens, Pushes, state_after_fetch, state_after_opening, state_after_refusal}
use Rattle.lq_embed.specs.Opening.{kept_by}
use Rattle.lq_embed.specs.Pushed.{PutsOn}
use Rattle.lq_embed.specs.Requests.{in_utf8}
use Rattle.lq_embed.specs.Outs.{fetched_after, opening_after}
use Rattle.lq_embed.specs.SessionState.{SessionState, with_pushed, with_session}
use Rattle.lq_embed.specs.Status.{response_status, status_of}

-- ---- texts that have to be UTF-8

-- the second of two, where the text isn't UTF-8
pub if-not_utf8 : {A : Type 0} (text : List ℕ) (x y : A) → ¬ IsUtf8 text
    → (if is_utf8 text then x else y) ≡ y
if-not_utf8 text x y not = at (is_utf8 text) refl
  where
    at : (b : Bool) → is_utf8 text ≡ b → (if is_utf8 text then x else y) ≡ y
    at true is = absurd (not (IsUtf8-from_is_utf8 text is))
    at false is = rw is refl

-- the first, where it is
pub if-utf8 : {A : Type 0} (text : List ℕ) (x y : A) → IsUtf8 text
    → (if is_utf8 text then x else y) ≡ x
if-utf8 text x y utf8 = rw (is_utf8-from_IsUtf8 text utf8) refl

-- a request that is refused for another text is refused the same before this text is read
pub in_utf8-refused : (text : List ℕ) (q : Result Request Refusal) → q ≡ Err NotUtf8
    → in_utf8 text q ≡ Err NotUtf8
in_utf8-refused text q refused = at (is_utf8 text)
  where
    at : (b : Bool) → (if b then q else Err NotUtf8) ≡ Err NotUtf8
    at true = refused
    at false = refl

-- ---- changes

-- a change of the request, where it asks the same as another
pub changes-as : {old new : SessionState} {q p : Result Request Refusal} {status : ℕ}
    {before after : AppliedOut} → q ≡ p → Changes old new p status before after
    → Changes old new q status before after
changes-as {old = old} {new = new} {status = status} {before = before} {after = after} same was =
    subst (λ (r : Result Request Refusal). Changes old new r status before after) (sym same) was

-- a request that is refused changes nothing
pub changes-barred : {old : SessionState} {q : Result Request Refusal} {status : ℕ}
    {before : AppliedOut} (refusal : Refusal) → q ≡ Err refusal → status ≡ code_of refusal
    → Changes old old q status before before
changes-barred refusal is code = changes-as is (record {
  answer = Refused refusal;
  asks = (inl refl, refl);
  code = code;
  out = refl;
  beside = refl;
})

-- ---- openings

pub opens-as : {old new : SessionState} {q p : Result Request Refusal} {status : ℕ}
    {before after : OpeningOut} → q ≡ p → Opens old new old.pushed p status before after
    → Opens old new old.pushed q status before after
opens-as {old = old} {new = new} {status = status} {before = before} {after = after} same was =
    subst (λ (r : Result Request Refusal). Opens old new old.pushed r status before after)
    (sym same) was

-- an opening that is refused as its formula is read, with no place
pub opens-not_utf8 : {old : SessionState} {q : Result Request Refusal} {status : ℕ}
    {before : OpeningOut} → q ≡ Err NotUtf8 → status ≡ code_of NotUtf8
    → Opens old old old.pushed q status before before
opens-not_utf8 is code = opens-as is (record {
  answer = Refused NotUtf8;
  asks = (inl refl, refl);
  code = code;
  out = refl;
  kept = refl;
})

-- what is kept of an answer leaves the session
opened-session : (answer : Answer) (s : SessionState)
    → (state_after_opening answer s).session ≡ s.session
opened-session (Opened slot at result) s = refl
opened-session (Refused (BadQuery offset)) s = refl
opened-session (Refused refusal) s = refl
opened-session answer s = refl

-- an opening, from what its turn did and what was kept of its reply
pub opens-made : {old mid new : SessionState} {p : Result Request Refusal} {status : ℕ}
    {before after : OpeningOut} (answer : Answer) → Asks old.session mid.session p answer
    → mid ≡ with_session old mid.session → status ≡ status_of answer
    → after ≡ opening_after answer before → new ≡ state_after_opening answer mid
    → Opens old new old.pushed p status before after
opens-made {old = old} {mid = mid} {new = new} {p = p} answer asks beside code out kept =
    let same : mid.session ≡ new.session =
    sym (ap (λ (s : SessionState). s.session) kept ∙ opened-session answer mid) in
    record {
      answer = answer;
      asks = subst (λ (s : Session). Asks old.session s p answer) same asks;
      code = code;
      out = out;
      kept = kept ∙ ap (state_after_opening answer) (beside ∙ ap (with_session old) same);
    }

-- a refused opening keeps what there was
pub kept-refused : (no_result : Bool) (status slot : ℕ) (s : SessionState)
    → (status == 0) ≡ false → kept_by no_result status slot s ≡ s
kept-refused false status slot s is = refl
kept-refused true status slot s is = rw is refl

-- ---- looks

pub finds-as : {old new : SessionState} {q p : Result Request Refusal} {status before after : ℕ}
    → q ≡ p → FindsNode old new p status before after → FindsNode old new q status before after
finds-as {old = old} {new = new} {status = status} {before = before} {after = after} same was =
    subst (λ (r : Result Request Refusal). FindsNode old new r status before after) (sym same) was

-- a look-up of a place that isn't UTF-8
pub finds-not_utf8 : {old : SessionState} {q : Result Request Refusal} {status before : ℕ}
    → q ≡ Err NotUtf8 → status ≡ code_of NotUtf8 → FindsNode old old q status before before
finds-not_utf8 is code = finds-as is (record {
  response = Refuses NotUtf8;
  responds = inr refl;
  code = code;
  out = refl;
  stays = refl;
})

pub fetches-as : {old new : SessionState} {q p : Result Request Refusal} {status : ℕ}
    {before after : FetchedOut} → q ≡ p → Fetches old new old.pushed p status before after
    → Fetches old new old.pushed q status before after
fetches-as {old = old} {new = new} {status = status} {before = before} {after = after} same was =
    subst (λ (r : Result Request Refusal). Fetches old new old.pushed r status before after)
    (sym same) was

-- a fetch whose formula isn't UTF-8
pub fetches-not_utf8 : {old : SessionState} {q : Result Request Refusal} {status : ℕ}
    {before : FetchedOut} → q ≡ Err NotUtf8 → status ≡ code_of NotUtf8
    → Fetches old old old.pushed q status before before
fetches-not_utf8 is code = fetches-as is (record {
  response = Refuses NotUtf8;
  responds = inr refl;
  code = code;
  out = refl;
  kept = refl;
})

-- a fetch, from its response and what was kept of it
pub fetches-made : {old mid new : SessionState} {response : Response} {p : Result Request Refusal}
    {status : ℕ} {before after : FetchedOut} → Responds old.session p response → mid ≡ old
    → status ≡ response_status response → after ≡ fetched_after response before
    → new ≡ state_after_fetch response mid → Fetches old new old.pushed p status before after
fetches-made {response = response} responds stays code out kept = record {
  response = response;
  responds = responds;
  code = code;
  out = out;
  kept = kept ∙ ap (state_after_fetch response) stays;
}

-- ---- pushes

-- a push to a stack with the outcome of another
pub puts-as : (old new : Stacked) (result : Result (Unit {0}) Refusal)
    {q p : Result (Option Stacked) Refusal} → q ≡ p → PutsOn old new p result
    → PutsOn old new q result
puts-as old new result same was =
    subst (λ (r : Result (Option Stacked) Refusal). PutsOn old new r result) (sym same) was

-- what is Ok isn't refused, and what is none isn't there
ok-is : {e : Refusal} → ◌≡◌ {A = Result (Unit {0}) Refusal} (Ok tt) (Err e) → ⊥
ok-is is = let no : ⊥ = cc in no

none-is : {stack : Stacked} → ◌≡◌ {A = Option Stacked} None (Some stack) → ⊥
none-is is = let no : ⊥ = cc in no

refused-is : {r e : Refusal} → ◌≡◌ {A = Result (Unit {0}) Refusal} (Err r) (Err e) → r ≡ e
refused-is is = cc

-- a push that its stack took
pub pushes-done : (old new : SessionState) (outcome : Result (Option Stacked) Refusal)
    → PutsOn old.pushed new.pushed outcome (Ok tt) → new ≡ with_pushed old new.pushed
    → Pushes old new outcome 0
pushes-done old new (Err e) puts beside = absurd (ok-is puts.0)
pushes-done old new (Ok None) puts beside = absurd (none-is puts.0)
pushes-done old new (Ok (Some stack)) puts beside = inl (
  refl,
  beside ∙ ap (with_pushed old)
      (ap (λ (o : Option Stacked). unwrap_or o stack) (sym puts.0)),
)

-- one that it refused
pub pushes-refused : (old mid new : SessionState) (status : ℕ)
    (outcome : Result (Option Stacked) Refusal) (r : Refusal)
    → PutsOn old.pushed mid.pushed outcome (Err r) → mid ≡ with_pushed old mid.pushed
    → status ≡ code_of r → new ≡ state_after_refusal r mid → Pushes old new outcome status
pushes-refused old mid new status (Err e) r puts beside code kept =
    let same : r ≡ e = refused-is puts.0 in (
      code ∙ ap code_of same,
      kept ∙ ap (state_after_refusal r) (beside ∙ ap (with_pushed old) puts.1)
          ∙ ap (λ (x : Refusal). state_after_refusal x old) same,
    )
pushes-refused old mid new status (Ok None) r puts beside code kept = (
  code ∙ ap code_of puts.1.1,
  kept ∙ ap (state_after_refusal r) (beside ∙ ap (with_pushed old) puts.2)
      ∙ ap (λ (x : Refusal). state_after_refusal x old) puts.1.1,
)
pushes-refused old mid new status (Ok (Some stack)) r puts beside code kept = inr (
  code ∙ ap code_of puts.1.1,
  kept ∙ ap (state_after_refusal r) (beside ∙ ap (with_pushed old) puts.2)
      ∙ ap (λ (x : Refusal). state_after_refusal x old) puts.1.1,
)
