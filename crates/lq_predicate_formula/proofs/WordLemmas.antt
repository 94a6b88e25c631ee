-- A formula has two words for each comparison of its query.
use Rattle.std.proofs.Common.{◌≡◌, ℕ, zero, suc, ◌+◌, List, [], ◌∷◌, ◌++◌, refl, sym, ap, ◌∙◌, arith, inl, inr}
use Rattle.lq_predicate_formula.specs.Tokens.{Token, closes, ands, ors}
use Rattle.lq_predicate_formula.specs.Query.{Query, queries, both_of, either_of}
use Rattle.lq_predicate_formula.specs.Grammar.{Reading, MoreParts, Parts, IsAnd, IsOr, IsComparison, IsNot, IsFormula}
use Rattle.lq_predicate_formula.specs.Canonical.{comparisons, all_comparisons}
use Rattle.lq_predicate_formula.specs.MachineReading.{word_count}

-- how many words stand among tokens
abbrev pub words : List Token → ℕ
words [] = 0
words (t ∷ ts) = word_count t + words ts

-- two lists of tokens have the words of both
pub words_append : (a b : List Token) → words (a ++ b) ≡ words a + words b
words_append [] b = omega arith
words_append (t ∷ a) b = omega (arith, words_append a b)

-- what P reads has two words for each comparison
abbrev Counts : Reading → Type 0
Counts P = (a : List Token) (q : Query) → P a q → words a ≡ comparisons q + comparisons q

-- an and has the comparisons of its parts
both_total : (q : Query) (qs : List Query)
    → comparisons (both_of (q ∷ qs)) ≡ all_comparisons (queries (q ∷ qs))
both_total q [] = omega arith
both_total q (r ∷ qs) = refl

-- an or has the comparisons of its parts
either_total : (q : Query) (qs : List Query)
    → comparisons (either_of (q ∷ qs)) ≡ all_comparisons (queries (q ∷ qs))
either_total q [] = omega arith
either_total q (r ∷ qs) = refl

-- parts that follow one another have two words for each comparison
follows_counts : (P : Reading) → Counts P → (sep : Token) → word_count sep ≡ 0
    → (ts : List Token) (qs : List Query) → MoreParts P sep ts qs
    → words ts ≡ all_comparisons (queries qs) + all_comparisons (queries qs)
follows_counts P counts sep none ts [] h = ap words h
follows_counts P counts sep none ts (q ∷ qs) h =
    let here = counts h.0 q h.3 in
    let others = follows_counts P counts sep none h.1 qs h.4 in
    ap words h.2 ∙ omega (arith, words_append h.0 h.1)

-- an and or an or has two words for each comparison, if its parts do
joined_counts : (join : List Query → Query)
    → ((q : Query) (qs : List Query)
    → comparisons (join (q ∷ qs)) ≡ all_comparisons (queries (q ∷ qs)))
    → (P : Reading) → Counts P → (sep : Token) → word_count sep ≡ 0
    → Counts (λ a r. (q : Query) × (qs : List Query) × (r ≡ join (q ∷ qs)) × Parts P sep a q qs)
joined_counts join total P counts sep none a r h =
    let size = ap words h.3.2 in
    let here = counts h.3.0 h.0 h.3.3 in
    let others = follows_counts P counts sep none h.3.1 h.1 h.3.4 in
    let whole = ap comparisons h.2 ∙ total h.0 h.1 in
    omega (arith, words_append h.3.0 h.3.1)

-- an or has two words for each comparison, if the parts of its ands do
or_counts : (P : Reading) → Counts P → Counts (IsOr P)
or_counts P counts = joined_counts either_of either_total (IsAnd P)
    (joined_counts both_of both_total P counts ands refl) ors refl

-- a comparison has two words
comparison_counts : Counts IsComparison
comparison_counts a q h = ap words h.5 ∙ sym (ap (λ r. comparisons r + comparisons r) h.8)

-- an operand has two words for each comparison
not_counts : (n : ℕ) → Counts (IsNot n)
not_counts zero a q h = comparison_counts a q h
not_counts (suc n) a q h = elim h [
  | inl c ↦ comparison_counts a q c
  | inr g ↦ elim g [
    | inl p ↦ ap words p.1 ∙ omega
        (arith, words_append p.0 (closes ∷ []), or_counts (IsNot n) (not_counts n) p.0 q p.2)
    | inr b ↦ ap words b.2 ∙ omega (arith, not_counts n b.0 b.1 b.4)
        ∙ sym (ap (λ r. comparisons r + comparisons r) b.3)
  ]
]

-- a formula has two words for each comparison of its query
pub formula_words : (n : ℕ) (ts : List Token) (q : Query) → IsFormula n ts q
    → words ts ≡ comparisons q + comparisons q
formula_words n ts q h = or_counts (IsNot n) (not_counts n) ts q h
