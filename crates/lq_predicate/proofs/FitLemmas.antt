-- What is within the limits of a predicate, by the lengths of canonical texts; and the query then.
use Rattle.std.proofs.Common.{◌≡◌, ℕ, true, false, Some, None, refl, sym, ap, arith}
use Rattle.std.specs.Prelude.{nat_le, if◌then◌else◌, IsSome, OnErr, Result, Ok, Err}
use Rattle.std.proofs.lemmas.Bool.Decides.{nat_tests}
use Rattle.lq_predicate_formula.specs.Capped.{capped}
use Rattle.lq_predicate_formula.specs.PredicateLimits.{if_within, is_within}
use Rattle.lq_predicate_formula.specs.Query.{Query}

-- a length that is cut is within the limit just where the length is
pub capped_test : (total n : ℕ) → total ≡ capped n → nat_le total 4096 ≡ nat_le n 4096
capped_test total n e = grind (arith, nat_tests)

-- a query within the limits is there
pub within_some : (q : Query) → is_within q ≡ true → Some q ≡ if_within q
within_some q is = sym (ap (λ b. if b then Some q else None) is)

-- and no other
pub within_none : (q : Query) → is_within q ≡ false → None ≡ if_within q
within_none q is = sym (ap (λ b. if b then Some q else None) is)

-- where a call fails for want of memory, the query is there
pub failed_within : {T E : Type 0} (r : Result T E) (q : Query) → is_within q ≡ true
    → OnErr r (IsSome (if_within q))
failed_within (Ok made) q is = tt
failed_within (Err e) q is = rw (sym (within_some q is)) refl
