-- The lengths of canonical texts, a piece at a time.
use Rattle.std.proofs.Common.{◌≡◌, ◌+◌, ◌≤◌, ℕ, suc, true, false, List, [], ◌∷◌, length, refl, ap, ◌∙◌, arith}
use Rattle.std.proofs.lemmas.List.{length-append}
use Rattle.std.proofs.lemmas.Bool.Decides.{nat_tests}
use Rattle.std.specs.Prelude.{codes, nat_le, nat_lt, ◌&&◌}
use Rattle.lq_predicate_formula.specs.Capped.{capped}
use Rattle.lq_predicate_formula.specs.PredicateLimits.{is_within}
use Rattle.lq_predicate_formula.specs.Query.{Query, And, Not, Or, Queries, no_more, and_then, queries}
use Rattle.lq_predicate_formula.specs.Canonical.{written, parts_written, others_written, canonical, comparisons, depth}
use Rattle.lq_predicate_formula.specs.Laws.{JoinedTextsAdd}
use Rattle.lq_predicate_formula.specs.Size.{parts_size}
use Rattle.lq_predicate_formula.proofs.TreeTextLemmas.{written-append}

-- a query's text before other bytes is as long as both
before_others : (q : Query) (others : List ℕ)
    → length (written q others) ≡ length (canonical q) + length others
before_others q others =
    ap length (written-append q [] others) ∙ length-append (written q []) others

-- the parts after the first, and the `)`, are as long as the parts' size says
others_size : (separator : List ℕ) (qs : Queries) → length separator ≡ 2
    → length (others_written separator qs (41 ∷ [])) ≡ 1 + parts_size qs
others_size separator no_more two = refl
others_size separator (and_then q qs) two =
    let rest = others_written separator qs (41 ∷ []) in
    let others = others_size separator qs two in
    let here = before_others q rest in
    let whole = length-append separator (written q rest) in
    omega (arith, two, others, here, whole)

-- the parts between parentheses are as long as their size says
parts_by : (separator : List ℕ) (q : Query) (others : Queries) → length separator ≡ 2
    → length (40 ∷ parts_written separator (and_then q others) (41 ∷ []))
    ≡ parts_size (and_then q others)
parts_by separator q others two =
    let behind = others_size separator others two in
    let here = before_others q (others_written separator others (41 ∷ [])) in
    omega (arith, behind, here)

-- the text of an And, and that of an Or, is as long as its parts' size
pub joined-add : JoinedTextsAdd
joined-add q others = (parts_by (codes "&&") q others refl, parts_by (codes "||") q others refl)

-- two predicates joined have four bytes beside their own
pub and_two_size : (lower upper : Query) → length (canonical (And (queries (lower ∷ upper ∷ []))))
    ≡ (length (canonical lower) + length (canonical upper)) + 4
and_two_size lower upper = omega (arith, (joined-add lower (queries (upper ∷ []))).0)

-- an Or of two parts has four bytes beside them
pub or_two_size : (lower upper : Query) → length (canonical (Or (queries (lower ∷ upper ∷ []))))
    ≡ (length (canonical lower) + length (canonical upper)) + 4
or_two_size lower upper = omega (arith, (joined-add lower (queries (upper ∷ []))).1)

-- two predicates joined, by an And or by an Or
pub ruleset two_sizes = (and_two_size, or_two_size)

-- the limits of a `!`, by numbers, where what it negates is shallow enough
shallow_tests : (d n l : ℕ) → nat_le d 63 ≡ true → n ≤ 256 → nat_lt (capped l) 4096
    ≡ (nat_le (suc d) 64 && nat_le n 256 && nat_le (suc l) 4096)
shallow_tests d n l shallow few = grind (arith, nat_tests)

-- and where it isn't
deep_tests : (d n l : ℕ) → nat_le d 63 ≡ false
    → false ≡ (nat_le (suc d) 64 && nat_le n 256 && nat_le (suc l) 4096)
deep_tests d n l deep = grind (arith, nat_tests)

-- a `!` adds a level and a byte
pub not_within : (q : Query) → nat_le (depth q) 63 ≡ true → comparisons q ≤ 256
    → nat_lt (capped (length (canonical q))) 4096 ≡ is_within (Not q)
not_within q shallow few =
    shallow_tests (depth q) (comparisons q) (length (canonical q)) shallow few

-- a `!` of what has the greatest depth is too deep
pub not_too_deep : (q : Query) → nat_le (depth q) 63 ≡ false → false ≡ is_within (Not q)
not_too_deep q deep = deep_tests (depth q) (comparisons q) (length (canonical q)) deep
