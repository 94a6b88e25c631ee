-- What a call that succeeded or failed says, put together.
use Rattle.std.proofs.Common.{◌≡◌, ◌==◌, ◌⊎◌, ℕ, Result, Ok, Err, OnOk, OnErr, IfErr, IsOk, is_err, true, false, ap, sym, ◌∙◌, arith, inl, inr}
use Rattle.std.proofs.lemmas.Bool.Decides.{nat_tests}
use Rattle.lq_script_lines.specs.declared.run_fault.RunFault.{RunFault}
use Rattle.lq_script_lines.specs.declared.run_fault.RunFault.TheVariants.{Limit, Memory, Read, Thread, Write}

-- what a success says, where a test found one
pub when_ok : {T E P : Type 0} (r : Result T E) → is_err r ≡ false → OnOk r P → P
when_ok (Ok x) h p = p
when_ok (Err e) h p = absurd (let no : true ≡ false = h in cc)

-- what an error says, where a test found one
pub when_err : {T E P : Type 0} (r : Result T E) → is_err r ≡ true → OnErr r P → P
when_err (Ok x) h p = absurd (let no : false ≡ true = h in cc)
when_err (Err e) h p = p

-- what has an error is no success
pub not_ok : {T E : Type 0} (r : Result T E) → is_err r ≡ true → IsOk r → ⊥
not_ok (Ok x) h ok = let no : false ≡ true = h in cc
not_ok (Err e) h ok = let no : false ≡ true = ok in cc

-- a success is no fault
pub no_fault : {P : Type 0} {f : RunFault} → ◌≡◌ {A = Result (Unit {0}) RunFault} (Ok tt) (Err f)
    → P
no_fault h = absurd (cc)

-- the place of a fault among the faults
abbrev pub place : RunFault → ℕ
place Read = 0
place Write = 1
place Limit = 2
place Memory = 3
place Thread = 4

-- a fault is no fault of another place
pub no_other : {P : Type 0} {e f : RunFault} → ◌≡◌ {A = Result (Unit {0}) RunFault} (Err e) (Err f)
    → (place e == place f) ≡ false → P
no_other {e} {f} h other =
    let same : e ≡ f = cc in
    let no : (place f == place f) ≡ false = rw same at other in
    absurd (grind (arith, nat_tests))

-- a fault of the writer or of memory is no other fault
pub neither : {P : Type 0} {r : Result (Unit {0}) RunFault} {f : RunFault} → r ≡ Err f
    → IfErr r (λ e. (e ≡ Write) ⊎ (e ≡ Memory)) → (place Write == place f) ≡ false
    → (place Memory == place f) ≡ false → P
neither {r = Ok x} h two w m = absurd (cc)
neither {r = Err e} h (inl is) w m = no_other (ap Err (sym is) ∙ h) w
neither {r = Err e} h (inr is) w m = no_other (ap Err (sym is) ∙ h) m

-- and one that isn't the writer's is that of memory
pub else_memory : {P : Type 0} (r : Result (Unit {0}) RunFault)
    → IfErr r (λ e. (e ≡ Write) ⊎ (e ≡ Memory)) → (r ≡ Err Memory → P)
    → OnErr r ((r ≡ Err Write) ⊎ P)
else_memory (Ok x) two m = tt
else_memory (Err e) (inl is) m = inl (ap Err is)
else_memory (Err e) (inr is) m = inr (m (ap Err is))
