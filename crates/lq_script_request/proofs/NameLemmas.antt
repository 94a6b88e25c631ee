-- What names an attribute is read as a name first.
use Rattle.std.proofs.Common.{◌≡◌, ◌⊎◌, refl, sym, ap, inl, inr}
use Rattle.std.specs.Prelude.{Bool, true, false, Option, Some, None, Result, Err, unwrap_or, if◌then◌else◌}
use Rattle.lq_value.specs.declared.refusal.Refusal.{Refusal}
use Rattle.lq_value.specs.declared.refusal.Refusal.TheVariants.{BadName, NoMemory}
use Rattle.lq_script_request.specs.declared.request.Request.{Request}

-- where the text is read as a name, the request is what that name asks for
pub named_value : (named : Bool) (asks : Result Request Refusal)
    → ◌≡◌ {A = Option Refusal} (if named then None else Some BadName) None
    → (if named then asks else Err BadName) ≡ asks
named_value true asks h = refl
named_value false asks h = absurd (cc)

-- where it isn't, the request is refused with the same refusal, or memory ran out
pub named_refused : (named : Bool) (asks : Result Request Refusal) (e : Refusal)
    → e ≡ unwrap_or (if named then None else Some BadName) NoMemory
    → (e ≡ NoMemory) ⊎ ((if named then asks else Err BadName) ≡ Err e)
named_refused true asks e is = inl is
named_refused false asks e is = inr (ap Err (sym is))
