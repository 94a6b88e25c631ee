-- Rows of tests with their faults: when none refuses, and which of two lists decides. And answers
-- of calls whose error is mapped.
use Rattle.std.proofs.Common.{◌≡◌, List, [], ◌∷◌, ◌++◌, refl, arith, subst, Bool, true, false}
use Rattle.std.specs.Prelude.{Result, Ok, Err, is_ok, OnOk, IfOk, MatchResult, Some, None}
use Rattle.std.specs.List.{AllByRecursion}
use Rattle.std.proofs.lemmas.Bool.Decides.{nat_tests}
use Rattle.lq_volume.specs.declared.restore_fault.RestoreFault.{RestoreFault}
use Rattle.lq_volume.specs.Restore.{first_fault}

-- where nothing refuses, no row's test holds
pub none_faults : (rows : List (Bool × RestoreFault)) → first_fault rows ≡ None
    → AllByRecursion (λ row. row.0 ≡ false) rows
none_faults [] h = tt
none_faults (row ∷ rows) h = let k = none_faults rows in grind (arith, nat_tests)

-- where one of the first rows refuses, it decides
pub earlier-decides : (rows more : List (Bool × RestoreFault)) (e : RestoreFault)
    → first_fault rows ≡ Some e → first_fault (rows ++ more) ≡ Some e
earlier-decides [] more e h = cc
earlier-decides ((true, x) ∷ rows) more e h = h
earlier-decides ((false, x) ∷ rows) more e h = earlier-decides rows more e h

-- where neither of two lists of rows refuses, both together don't
pub both-pass : (rows more : List (Bool × RestoreFault)) → first_fault rows ≡ None
    → first_fault more ≡ None → first_fault (rows ++ more) ≡ None
both-pass [] more h k = k
both-pass (row ∷ rows) more h k =
    let rest = both-pass rows more in
    grind (arith, nat_tests)

-- the first rows refuse nothing, and leave it to the others
pub later-decide : (rows more : List (Bool × RestoreFault)) → first_fault rows ≡ None
    → first_fault (rows ++ more) ≡ first_fault more
later-decide [] more h = refl
later-decide ((true, x) ∷ rows) more h = cc
later-decide ((false, x) ∷ rows) more h = later-decide rows more h

-- and where both together refuse nothing, neither of them does
pub first-pass : (rows more : List (Bool × RestoreFault)) → first_fault (rows ++ more) ≡ None
    → first_fault rows ≡ None
first-pass [] more h = refl
first-pass ((true, x) ∷ rows) more h = cc
first-pass ((false, x) ∷ rows) more h = first-pass rows more h

-- what is so of an answer where the call succeeds, is so where it did
pub on-ok : {T E : Type 0} {P : Type 0} (r : Result T E) → true ≡ is_ok r → OnOk r P → P
on-ok (Ok v) is h = h
on-ok (Err e) is h = cc

-- and where the error was mapped, of the value that was left as it is
pub if-ok : {T E : Type 0} (F : Type 0) (Q : E → Type 0) (P : T → Type 0) (r : Result T E) (v : T)
    → MatchResult r (λ x. ◌≡◌ {A = Result T F} (Ok v) (Ok x)) Q → true ≡ is_ok r → IfOk r P → P v
if-ok F Q P (Ok x) v same is h = let equal : x ≡ v = cc in subst P equal h
if-ok F Q P (Err e) v same is h = cc
