-- What a formula is read as is proper.
use Rattle.std.proofs.Common.{◌≡◌, ℕ, zero, suc, true, false, List, [], ◌∷◌, ◌++◌, Some, refl, sym, ap, ◌∙◌, subst, inl, inr}
use Rattle.std.specs.Prelude.{Result, Ok, Err}
use Rattle.std.proofs.lemmas.Option.{cond_some, none-some, same_Some}
use Rattle.lq_value.specs.Element.{Element}
use Rattle.lq_value.specs.declared.literal.Literal.{Literal}
use Rattle.lq_value.specs.declared.literal.Literal.TheVariants.{Pattern, Plain}
use Rattle.lq_value.specs.declared.op.Op.{Op}
use Rattle.lq_value.specs.declared.op.Op.TheVariants.{Eq, Ne}
use Rattle.lq_value.specs.Compare.{suits}
use Rattle.lq_value.specs.Name.{is_attr_name}
use Rattle.lq_value.specs.Source.{pattern_of}
use Rattle.lq_predicate_formula.specs.Tokens.{Token, closes, ands, ors}
use Rattle.lq_predicate_formula.specs.Query.{Query, queries, both_of, either_of}
use Rattle.lq_predicate_formula.specs.Literals.{literal_of, name_of, pattern_literal, unescaped}
use Rattle.lq_predicate_formula.specs.Grammar.{Reading, MoreParts, Parts, IsAnd, IsOr, IsComparison, IsNot, IsFormula}
use Rattle.lq_predicate_formula.specs.Limits.{AreProperBy, IsProperBy}
use Rattle.lq_predicate_formula.specs.Words.{WordsAre}

-- a name that is read is one
named : (raw name : List ℕ) → name_of raw ≡ Some name → is_attr_name name ≡ true
named raw name e =
    let h = cond_some (is_attr_name (unescaped false raw)) (unescaped false raw) name e in
    ap is_attr_name (sym h.1) ∙ h.0

-- an operator that takes patterns suits the pattern that is read
pattern_suits : (o : Op) → ((es : List Element) → suits (Pattern es) o ≡ true)
    → (r : Result (List Element) ℕ) (literal : Literal) → pattern_literal r ≡ Some literal
    → suits literal o ≡ true
pattern_suits o h (Ok es) literal e =
    ap (λ l. suits l o) (sym (same_Some (Pattern es) literal e)) ∙ h es
pattern_suits o h (Err k) literal e = absurd (none-some literal e)

-- a literal that is read suits its operator
pub read_suits : (o : Op) (raw : List ℕ) (literal : Literal) → literal_of o raw ≡ Some literal
    → suits literal o ≡ true
read_suits Eq raw literal e = pattern_suits Eq (λ es. refl) (pattern_of raw) literal e
read_suits Ne raw literal e = pattern_suits Ne (λ es. refl) (pattern_of raw) literal e
read_suits o raw literal e =
    ap (λ l. suits l o) (sym (same_Some (Plain (unescaped false raw)) literal e))

-- ---- where each literal that is read from a word of the tokens is one of W

-- each literal that is read from a text of kind T is one of W with its operator
abbrev pub LiteralsAre : (List ℕ → Type 0) → (Op → Literal → Type 0) → Type 0
LiteralsAre T W = (o : Op) (raw : List ℕ) (literal : Literal) → T raw
    → literal_of o raw ≡ Some literal → W o literal

-- what P reads of such words is proper
abbrev Proper : (List ℕ → Type 0) → (Op → Literal → Type 0) → Reading → Type 0
Proper T W P = (a : List Token) (q : Query) → WordsAre T a → P a q → IsProperBy W q

module _ (T : List ℕ → Type 0) (W : Op → Literal → Type 0) where
  -- what all words of two lists are, those of each are
  words_parts : (a b : List Token) → WordsAre T (a ++ b) → WordsAre T a × WordsAre T b
  words_parts [] b w = (tt, w)
  words_parts (t ∷ a) b w =
      let k = words_parts a b w.1 in
      ((w.0, k.0), k.1)

  -- parts that are read one by one as proper queries are proper
  follows_proper : (P : Reading) → Proper T W P → (sep : Token) (ts : List Token) (qs : List Query)
      → WordsAre T ts → MoreParts P sep ts qs → AreProperBy W (queries qs)
  follows_proper P good sep ts [] w h = tt
  follows_proper P good sep ts (q ∷ qs) w h =
      let k = subst (WordsAre T) h.2 w in
      let l = words_parts h.0 h.1 k.1 in
      (good h.0 q l.0 h.3, follows_proper P good sep h.1 qs l.1 h.4)

  -- proper parts make a proper and, and one part alone is itself
  both_good : (q : Query) (qs : List Query) → IsProperBy W q → AreProperBy W (queries qs)
      → IsProperBy W (both_of (q ∷ qs))
  both_good q [] h k = h
  both_good q (r ∷ qs) h k = (tt, (h, k))

  -- proper parts make a proper or, and one part alone is itself
  either_good : (q : Query) (qs : List Query) → IsProperBy W q → AreProperBy W (queries qs)
      → IsProperBy W (either_of (q ∷ qs))
  either_good q [] h k = h
  either_good q (r ∷ qs) h k = (tt, (h, k))

  -- an and or an or of parts that are read as proper is proper
  joined_proper : (join : List Query → Query)
      → ((q : Query) (qs : List Query) → IsProperBy W q → AreProperBy W (queries qs)
      → IsProperBy W (join (q ∷ qs)))
      → (P : Reading) → Proper T W P → (sep : Token) → Proper T W
      (λ a r. (q : Query) × (qs : List Query) × (r ≡ join (q ∷ qs)) × Parts P sep a q qs)
  joined_proper join both P good sep a r w h =
      let l = words_parts h.3.0 h.3.1 (subst (WordsAre T) h.3.2 w) in
      subst (IsProperBy W) (sym h.2) (both h.0 h.1 (good h.3.0 h.0 l.0 h.3.3)
      (follows_proper P good sep h.3.1 h.1 l.1 h.3.4))

  -- an or of parts that are read as proper is proper
  or_proper : (P : Reading) → Proper T W P → Proper T W (IsOr P)
  or_proper P good = joined_proper either_of either_good (IsAnd P)
      (joined_proper both_of both_good P good ands) ors

  -- a comparison is proper: its name is one, and its literal suits
  comparison_proper : LiteralsAre T W → Proper T W IsComparison
  comparison_proper f a q w h =
      let k = subst (WordsAre T) h.5 w in
      subst (IsProperBy W) (sym h.8) (named h.0 h.3 h.6, f h.1 h.2 h.4 k.1.1.0 h.7)

  -- an operand is proper: a comparison, one after `!`, or one between parentheses
  not_proper : LiteralsAre T W → (n : ℕ) → Proper T W (IsNot n)
  not_proper f zero a q w h = comparison_proper f a q w h
  not_proper f (suc n) a q w h = elim h [
    | inl c ↦ comparison_proper f a q w c
    | inr g ↦ elim g [
      | inl p ↦ or_proper (IsNot n) (not_proper f n) p.0 q
          (words_parts p.0 (closes ∷ []) (subst (WordsAre T) p.1 w).1).0 p.2
      | inr b ↦ subst (IsProperBy W) (sym b.3)
          (not_proper f n b.0 b.1 (subst (WordsAre T) b.2 w).1 b.4)
    ]
  ]

  -- what a formula is read as is proper
  pub formula_proper_by : LiteralsAre T W → (n : ℕ) (ts : List Token) (q : Query) → WordsAre T ts
      → IsFormula n ts q → IsProperBy W q
  formula_proper_by f n ts q w h = or_proper (IsNot n) (not_proper f n) ts q w h
