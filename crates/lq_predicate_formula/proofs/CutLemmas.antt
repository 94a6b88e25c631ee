-- Where a text may be cut behind an ASCII byte.
use Rattle.std.proofs.Common.{◌≡◌, ◌<◌, ◌≤◌, ◌+◌, ℕ, zero, suc, pred, List, length, get_or, IsUtf8, arith, subst, drop, length-drop, get_or-drop, ap, ◌∙◌}
use Rattle.std.specs.Str.{IsCharBoundary}
use Rattle.std.proofs.lemmas.Str.{IsCharBoundary-after_ascii}
use Rattle.std.proofs.iter.FirstChar.{at_start}

-- a text of UTF-8 may be cut at its start and after each ASCII byte
pub boundary_behind : (bs : List ℕ) (n : ℕ)
    → IsUtf8 bs → n ≤ length bs → (0 < n → get_or bs (pred n) 0 < 128) → IsCharBoundary bs n
boundary_behind bs zero u h a = (h, (at_start bs u).1)
boundary_behind bs (suc n) u h a =
    let e : n + 1 ≡ suc n = omega arith in
    subst (IsCharBoundary bs) e (IsCharBoundary-after_ascii bs n u (omega arith) (a (omega arith)))

-- behind the first byte and n more, and a mark
pub boundary_quoted : (bs : List ℕ) (n : ℕ)
    → IsUtf8 bs → n < length (drop 1 bs) → get_or (drop 1 bs) n 0 < 128 → IsCharBoundary bs (n + 2)
boundary_quoted bs n u h a =
    let l : suc n < length bs = omega (arith, length-drop 1 bs) in
    let e : suc (suc n) ≡ n + 2 = omega arith in
    let at : get_or (drop 1 bs) n 0 ≡ get_or bs (suc n) 0 = get_or-drop 1 bs n 0
    ∙ ap (λ i. get_or bs i 0) (let k : 1 + n ≡ suc n = omega arith in k) in
    subst (IsCharBoundary bs) e
    (boundary_behind bs (suc (suc n)) u (omega arith) (λ _. subst (λ x. x < 128) at a))
