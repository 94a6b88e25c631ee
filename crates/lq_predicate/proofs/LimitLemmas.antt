-- What a formula reads as is formed, and is a predicate.
use Rattle.std.proofs.Common.{◌≡◌, ◌≤◌, ℕ, zero, suc, Bool, true, false, ◌&&◌, List, [], ◌∷◌, length, Some, refl, ap, ◌∙◌, subst, arith, inl, inr}
use Rattle.std.specs.Prelude.{nat_le}
use Rattle.std.proofs.lemmas.Bool.{le-leb}
use Rattle.lq_value.specs.Compare.{suits}
use Rattle.lq_value.specs.declared.op.Op.{Op}
use Rattle.lq_value.specs.declared.op.Op.TheVariants.{Eq, Ne, Lt, Le, Gt, Ge}
use Rattle.lq_value.specs.declared.literal.Literal.{Literal}
use Rattle.lq_value.specs.declared.literal.Literal.TheVariants as literal
use Rattle.lq_value.specs.Element.{Element}
use Rattle.lq_value.specs.Source.{pattern_of}
use Rattle.std.specs.Prelude.{Result, Ok, Err}
use Rattle.lq_predicate_formula.specs.Tokens.{Token, bare}
use Rattle.lq_predicate_formula.specs.Query.{Query, Compare, queries, both_of, either_of}
use Rattle.lq_predicate_formula.specs.Literals.{literal_of, pattern_literal}
use Rattle.lq_predicate_formula.specs.Grammar.{Reading, MoreParts, IsAnd, IsOr, IsComparison, IsNot, nesting}
use Rattle.lq_predicate_formula.specs.Canonical.{canonical, depth, comparisons}
use Rattle.lq_predicate_formula.specs.Faults.{Reads}
use Rattle.lq_predicate_formula.specs.PredicateLimits.{is_formed, are_formed, part_count, is_predicate}

-- four tests that are true are true together
four : (a b c d : Bool) → a ≡ true → b ≡ true → c ≡ true → d ≡ true → (a && (b && c && d)) ≡ true
four true true true true e f g h = refl
four false b c d e f g h = e
four true false c d e f g h = f
four true true false d e f g h = g
four true true true false e f g h = h

-- a formed query within the three limits is a predicate
pub within : (q : Query) → is_formed q ≡ true → depth q ≤ 64 → comparisons q ≤ 256
    → length (canonical q) ≤ 4096 → is_predicate q ≡ true
within q formed shallow few brief =
    four (is_formed q) (nat_le (depth q) 64) (nat_le (comparisons q) 256)
    (nat_le (length (canonical q)) 4096) formed (le-leb _ _ shallow) (le-leb _ _ few)
    (le-leb _ _ brief)

-- ---- what a formula reads as

-- what is read is formed
abbrev Forms : Reading → Type 0
Forms P = (ts : List Token) (q : Query) → P ts q → is_formed q ≡ true

-- an operator that takes patterns suits the pattern that is read
pattern_suits : (o : Op) (r : Result (List Element) ℕ) (l : Literal)
    → ((x : List Element) → suits (literal.Pattern x) o ≡ true) → pattern_literal r ≡ Some l
    → suits l o ≡ true
pattern_suits o (Ok x) l h e =
    subst (λ m. suits m o ≡ true) (let same : literal.Pattern x ≡ l = cc in same) (h x)
pattern_suits o (Err k) l h e = cc

-- an operator that takes plain texts suits the text that is read
plain_suits : (o : Op) (l m : Literal) → suits m o ≡ true → Some m ≡ Some l → suits l o ≡ true
plain_suits o l m h e = subst (λ x. suits x o ≡ true) (let same : m ≡ l = cc in same) h

-- a comparison with a literal that its operator reads is formed
literal_forms : (name : List ℕ) (o : Op) (raw : List ℕ) (l : Literal) → literal_of o raw ≡ Some l
    → is_formed (Compare name o l) ≡ true
literal_forms name Eq raw l e = pattern_suits Eq (pattern_of raw) l (λ x. refl) e
literal_forms name Ne raw l e = pattern_suits Ne (pattern_of raw) l (λ x. refl) e
literal_forms name Lt raw l e = plain_suits Lt l _ refl e
literal_forms name Le raw l e = plain_suits Le l _ refl e
literal_forms name Gt raw l e = plain_suits Gt l _ refl e
literal_forms name Ge raw l e = plain_suits Ge l _ refl e

-- a comparison reads as a formed query
comparison_formed : Forms IsComparison
comparison_formed ts q (a, o, l, name, literal, is, named, read, said) =
    ap is_formed said ∙ literal_forms name o l literal read

-- parts that are read one by one as formed are formed
follows_formed : (P : Reading) → Forms P → (sep : Token) (ts : List Token) (qs : List Query)
    → MoreParts P sep ts qs → are_formed (queries qs) ≡ true
follows_formed P h sep ts [] f = refl
follows_formed P h sep ts (q ∷ qs) (a, b, is, here, others) =
    ap (λ t. t && are_formed (queries qs)) (h a q here) ∙ follows_formed P h sep b qs others

-- two formed parts or more are enough of them, and formed
two_formed : (q r : Query) (qs : List Query)
    → is_formed q ≡ true → are_formed (queries (r ∷ qs)) ≡ true
    → (nat_le 2 (part_count (queries (q ∷ r ∷ qs))) && are_formed (queries (q ∷ r ∷ qs))) ≡ true
two_formed q r qs e f = ap (λ t. t && are_formed (queries (q ∷ r ∷ qs)))
    (le-leb 2 (part_count (queries (q ∷ r ∷ qs))) (omega arith))
    ∙ ap (λ t. t && are_formed (queries (r ∷ qs))) e ∙ f

-- formed parts make a formed and, and one part alone is itself
both_formed : (q : Query) (qs : List Query) → is_formed q ≡ true → are_formed (queries qs) ≡ true
    → is_formed (both_of (q ∷ qs)) ≡ true
both_formed q [] e f = e
both_formed q (r ∷ qs) e f = two_formed q r qs e f

-- formed parts make a formed or, and one part alone is itself
either_formed : (q : Query) (qs : List Query) → is_formed q ≡ true → are_formed (queries qs) ≡ true
    → is_formed (either_of (q ∷ qs)) ≡ true
either_formed q [] e f = e
either_formed q (r ∷ qs) e f = two_formed q r qs e f

-- an and of parts that read as formed reads as formed
and_formed : (P : Reading) → Forms P → Forms (IsAnd P)
and_formed P h ts r (q, qs, is, (a, b, split, here, others)) =
    ap is_formed is ∙ both_formed q qs (h a q here) (follows_formed P h _ b qs others)

-- an or of parts that read as formed reads as formed
or_formed : (P : Reading) → Forms P → Forms (IsOr P)
or_formed P h ts r (q, qs, is, (a, b, split, here, others)) = ap is_formed is ∙ either_formed q qs
    (and_formed P h a q here) (follows_formed (IsAnd P) (and_formed P h) _ b qs others)

-- an operand reads as a formed query
not_formed : (n : ℕ) → Forms (IsNot n)
not_formed zero ts q h = comparison_formed ts q h
not_formed (suc n) ts q (inl h) = comparison_formed ts q h
not_formed (suc n) ts q (inr (inl (a, is, h))) = or_formed (IsNot n) (not_formed n) a q h
not_formed (suc n) ts q (inr (inr (a, r, is, said, h))) = ap is_formed said ∙ not_formed n a r h

-- a formula's query is a predicate
pub reads_predicate : (text : List ℕ) (q : Query) → Reads text q → is_predicate q ≡ true
reads_predicate text q h =
    within q (or_formed (IsNot nesting) (not_formed nesting) (bare h.tokens) q h.formula)
    h.shallow h.few h.brief
