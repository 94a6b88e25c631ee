-- The parts of a query, from an index on: their depth, their form and their names.
use Rattle.std.proofs.Common.{◌≡◌, ℕ, zero, suc, ◌+◌, ◌<◌, ◌≤◌, List, [], ◌∷◌, ◌++◌, length, drop, get_or, sym, ap, ◌∙◌, arith, refl, true, false, nat_le}
use Rattle.std.specs.List.{AllByRecursion}
use Rattle.std.proofs.lemmas.List.{at_drop_more}
use Rattle.std.proofs.lemmas.Bool.{and_parts}
use Rattle.std.proofs.Math.Dec.{leb-suc-zero}
use Rattle.lq_predicate_formula.specs.Query.{Query, Queries, and_then, queries, Compare, Not, And, Or}
use Rattle.lq_predicate_formula.specs.Canonical.{depth, deepest}
use Rattle.lq_predicate_formula.specs.Names.{with_name, each_once}
use Rattle.lq_predicate_formula.specs.PredicateLimits.{is_formed, are_formed}

-- what is made of the parts from an index on, at a part and at the end
pub parts_here : {Y : Type 0} (F : Queries → Y) (parts : List Query) (i : ℕ) (q : Query)
    → i < length parts → q ≡ get_or parts i q
    → F (queries (drop i parts)) ≡ F (and_then q (queries (drop (i + 1) parts)))
parts_here F parts i q below is =
    at_drop_more (λ qs. F (queries qs)) parts i q below
    ∙ ap (λ x. F (and_then x (queries (drop (i + 1) parts)))) (sym is)

-- no part is deeper than the deepest
pub depth_le-deepest : (parts : List Query) (i : ℕ) (q : Query)
    → i < length parts → q ≡ get_or parts i q → depth q ≤ deepest (queries parts)
depth_le-deepest (p ∷ parts) zero q below is = let e = ap depth is in omega (arith, e)
depth_le-deepest (p ∷ parts) (suc i) q below is =
    let h = depth_le-deepest parts i q (omega (arith, below)) is in
    omega (arith, h)
depth_le-deepest [] i q below is = absurd (let no : ⊥ = omega (arith, below) in no)

-- what holds of all members of two lists holds of all members of each
pub all_parts : {X : Type 0} (P : X → Type 0) (xs ys : List X) → AllByRecursion P (xs ++ ys)
    → AllByRecursion P xs × AllByRecursion P ys
all_parts P [] ys h = (tt, h)
all_parts P (x ∷ xs) ys h =
    let k = all_parts P xs ys h.1 in
    ((h.0, k.0), k.1)

-- names each once, of some uses and then of others
pub each_once-append : (names uses more : List (List ℕ))
    → each_once names (uses ++ more) ≡ each_once (each_once names uses) more
each_once-append names [] more = refl
each_once-append names (name ∷ uses) more = each_once-append (with_name names name) uses more

-- each of some formed parts is formed
pub part_formed : (qs : List Query) (i : ℕ) (q : Query)
    → i < length qs → q ≡ get_or qs i q → are_formed (queries qs) ≡ true → is_formed q ≡ true
part_formed [] i q below is all = absurd (let no : ⊥ = omega (arith, below) in no)
part_formed (p ∷ qs) zero q below is all =
    ap is_formed is ∙ (and_parts (is_formed p) (are_formed (queries qs)) all).0
part_formed (p ∷ qs) (suc i) q below is all = part_formed qs i q (omega (arith, below)) is
    (and_parts (is_formed p) (are_formed (queries qs)) all).1

-- no depth is within 0
pub over_zero : (q : Query) → false ≡ nat_le (depth q) 0
over_zero (Compare a o l) = refl
over_zero (Not q) = sym (leb-suc-zero (depth q))
over_zero (And qs) = sym (leb-suc-zero (deepest qs))
over_zero (Or qs) = sym (leb-suc-zero (deepest qs))

-- no depth is within a bound that is 0
pub not_flat : (q : Query) (n : ℕ) → n ≡ 0 → false ≡ nat_le (depth q) n
not_flat q n e = over_zero q ∙ ap (nat_le (depth q)) (sym e)
