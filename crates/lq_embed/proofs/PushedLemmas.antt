-- A query of the predicate that is a stack's only item, or of none.
use Rattle.std.proofs.Common.{◌≡◌, ◌∙◌, ℕ, refl, sym, ap, subst, None, Some, inl, inr}
use Rattle.std.specs.Prelude.{◌==◌, false, Option, Ok}
use Rattle.lq_value.specs.declared.refusal.Refusal.{Refusal}
use Rattle.lq_value.specs.declared.refusal.Refusal.TheVariants.{BadQuery}
use Rattle.lq_value.specs.Refusal.{code_of}
use Rattle.lq_predicate.specs.Query.{Query}
use Rattle.lq_predicate.specs.Stack.{refusal_at}
use Rattle.lq_predicate.specs.Stacked.{new_stack}
use Rattle.lq_update.specs.declared.open_options.OpenOptions.{OpenOptions as QueryOptions}
use Rattle.lq_desk_world.specs.declared.event.Event.TheVariants.{OpenBy}
use Rattle.lq_desk_world.specs.Events.{Refused}
use Rattle.lq_script_request.specs.declared.request.Request.TheVariants.{Event, Look}
use Rattle.lq_script_request.specs.declared.request.Look.TheVariants.{Fetch}
use Rattle.lq_script_desk.specs.Response.{Refuses}
use Rattle.lq_script_desk.specs.Session.{Session}
use Rattle.lq_embed.specs.declared.out_structs.OpeningOut.{OpeningOut}
use Rattle.lq_embed.specs.declared.out_structs.FetchedOut.{FetchedOut}
use Rattle.lq_embed.specs.Calls.{Fetches, Opens, state_after_refusal}
use Rattle.lq_embed.specs.Requests.{fetch_pushed, stack_left, open_pushed}
use Rattle.lq_embed.specs.SessionState.{SessionState, with_fault, with_pushed, with_session}

-- the state after a stack without a predicate was refused
none-after : {old mid new : SessionState} (e : Refusal) → e ≡ BadQuery old.pushed.pushes
    → mid ≡ old → new ≡ state_after_refusal e mid → new ≡ with_fault old old.pushed.pushes
none-after {old = old} e is stays kept =
    kept ∙ ap (state_after_refusal e) stays ∙ ap (λ (r : Refusal). state_after_refusal r old) is

-- its status is no 0
pub none-code : (pushes : ℕ) {status : ℕ} (o : Option Query) (e : Refusal)
    → refusal_at pushes o ≡ Some e → status ≡ code_of e → (status == 0) ≡ false
none-code pushes None e is code =
    let same : e ≡ BadQuery pushes = cc in ap (λ n. n == 0) (code ∙ ap code_of same)
none-code pushes (Some q) e is code = absurd (let no : ⊥ = cc in no)

-- an opening of none
pub opens-none : {old mid new : SessionState} {status : ℕ} {before : OpeningOut}
    (options : QueryOptions) (o : Option Query) (e : Refusal)
    → refusal_at old.pushed.pushes o ≡ Some e → mid ≡ old → status ≡ code_of e
    → new ≡ state_after_refusal e mid
    → Opens old new (stack_left old.pushed o) (open_pushed old.pushed.pushes options o)
    status before before
opens-none {old = old} {new = new} options None e is stays code kept =
    let same : e ≡ BadQuery old.pushed.pushes = cc in
    let after : new ≡ with_fault old old.pushed.pushes = none-after e same stays kept in
    let session : new.session ≡ old.session = ap (λ (s : SessionState). s.session) after in record {
      answer = Refused (BadQuery old.pushed.pushes);
      asks = (inl refl, session);
      code = code ∙ ap code_of same;
      out = refl;
      kept = after ∙ ap (λ (s : Session). with_fault (with_session old s) old.pushed.pushes)
          (sym session);
    }
opens-none options (Some q) e is stays code kept = absurd (let no : ⊥ = cc in no)

-- a fetch of none
pub fetches-none : {old mid new : SessionState} {status : ℕ} {before : FetchedOut}
    (o : Option Query)
    (e : Refusal) → refusal_at old.pushed.pushes o ≡ Some e → mid ≡ old → status ≡ code_of e
    → new ≡ state_after_refusal e mid
    → Fetches old new (stack_left old.pushed o) (fetch_pushed old.pushed.pushes o) status
    before before
fetches-none {old = old} None e is stays code kept =
    let same : e ≡ BadQuery old.pushed.pushes = cc in record {
      response = Refuses (BadQuery old.pushed.pushes);
      responds = inr refl;
      code = code ∙ ap code_of same;
      out = refl;
      kept = none-after e same stays kept;
    }
fetches-none (Some q) e is stays code kept = absurd (let no : ⊥ = cc in no)

-- an opening of the only item, after it was taken off
pub opens-alone : {old mid new : SessionState} {status : ℕ} {before after : OpeningOut}
    (options : QueryOptions) (o : Option Query) (q : Query) → o ≡ Some q
    → mid ≡ with_pushed old new_stack
    → Opens mid new mid.pushed (Ok (Event (OpenBy q options))) status before after
    → Opens old new (stack_left old.pushed o) (open_pushed old.pushed.pushes options o)
    status before after
opens-alone {old = old} {new = new} {status = status} {before = before} {after = after} options
    o q is off known =
    let there = subst (λ (m : SessionState). Opens m new m.pushed
    (Ok (Event (OpenBy q options)))
    status before after) off known in
    subst (λ (p : Option Query). Opens old new (stack_left old.pushed p)
    (open_pushed old.pushed.pushes options p) status before after) (sym is) (record {
      answer = there.answer;
      asks = there.asks;
      code = there.code;
      out = there.out;
      kept = there.kept;
    })

-- a fetch of the only item, after it was taken off
pub fetches-alone : {old mid new : SessionState} {status : ℕ} {before after : FetchedOut}
    (o : Option Query) (q : Query) → o ≡ Some q → mid ≡ with_pushed old new_stack
    → Fetches mid new mid.pushed (Ok (Look (Fetch q))) status before after
    → Fetches old new (stack_left old.pushed o) (fetch_pushed old.pushed.pushes o) status
    before after
fetches-alone {old = old} {new = new} {status = status} {before = before} {after = after} o q is
    off known =
    let there = subst (λ (m : SessionState). Fetches m new m.pushed (Ok (Look (Fetch q))) status
    before after)
    off known in
    subst (λ (p : Option Query). Fetches old new (stack_left old.pushed p)
    (fetch_pushed old.pushed.pushes p) status before after) (sym is) (record {
      response = there.response;
      responds = there.responds;
      code = there.code;
      out = there.out;
      kept = there.kept;
    })
