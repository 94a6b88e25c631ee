-- What a line does to the session behind a handle.
use Rattle.std.proofs.Common.{◌≡◌, subst, Option, Result, Ok, Err, is_err, false}
use Rattle.lq_value.specs.declared.refusal.Refusal.{Refusal}
use Rattle.lq_script_request.specs.declared.request.Request.{Request}
use Rattle.lq_script_desk.specs.Turned.{TurnedByLine}
use Rattle.lq_embed.specs.SessionState.{SessionState}

-- a line that was answered
pub line-answered : (was old new : SessionState) (result : Result (Unit {0}) Refusal)
    (q : Option Request) → is_err result ≡ false → was ≡ old
    → TurnedByLine was.session new.session result q
    → TurnedByLine old.session new.session (Ok tt) q
line-answered was old new (Ok done) q fine same turned =
    subst (λ (s : SessionState). TurnedByLine s.session new.session (Ok tt) q) same turned
line-answered was old new (Err e) q fine same turned = absurd (let no : ⊥ = cc in no)
