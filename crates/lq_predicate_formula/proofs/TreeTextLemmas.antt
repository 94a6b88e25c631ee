-- Canonical texts, a piece at a time.
use Rattle.std.proofs.Common.{◌≡◌, ℕ, List, [], ◌∷◌, ◌++◌, append_assoc, refl, sym, ap, ◌∙◌, ◌+◌, ◌<◌, length, drop, get_or}
use Rattle.std.specs.Prelude.{codes}
use Rattle.lq_predicate_formula.proofs.PartLemmas.{parts_here}
use Rattle.lq_predicate_formula.proofs.WritingLemmas.{attr_then-append, in_marks-append, on}
use Rattle.lq_predicate_formula.specs.Query.{Query, Compare, Not, And, Or, Queries, no_more, and_then, queries}
use Rattle.lq_predicate_formula.specs.Canonical.{in_marks, attr_then, op_text, literal_text, written, parts_written, others_written, canonical}

-- what follows a query's text may be cut off
mutual
  pub written-append : (q : Query) (xs rest : List ℕ)
      → written q (xs ++ rest) ≡ written q xs ++ rest
  written-append (Compare attr op literal) xs rest =
      let inner = in_marks-append (literal_text literal) (41 ∷ xs) rest in
      let behind =
      sym (append_assoc (op_text op) (in_marks (literal_text literal) (41 ∷ xs)) rest) in
      ap
      (λ t. 40 ∷ t) (ap (λ t. attr_then attr (op_text op ++ t)) inner ∙ ap (attr_then attr) behind
      ∙ attr_then-append attr (op_text op ++ in_marks (literal_text literal) (41 ∷ xs)) rest)
  written-append (Not q) xs rest = ap (λ t. 33 ∷ t) (written-append q xs rest)
  written-append (And qs) xs rest =
      ap (λ t. 40 ∷ t) (parts_written-append (codes "&&") qs (41 ∷ xs) rest)
  written-append (Or qs) xs rest =
      ap (λ t. 40 ∷ t) (parts_written-append (codes "||") qs (41 ∷ xs) rest)

  -- what follows the parts of an And or an Or may be cut off
  pub parts_written-append : (separator : List ℕ) (qs : Queries) (xs rest : List ℕ)
      → parts_written separator qs (xs ++ rest) ≡ parts_written separator qs xs ++ rest
  parts_written-append separator no_more xs rest = refl
  parts_written-append separator (and_then q qs) xs rest =
      ap (written q) (others_written-append separator qs xs rest)
      ∙ written-append q (others_written separator qs xs) rest

  -- what follows the parts after the first may be cut off
  pub others_written-append : (separator : List ℕ) (qs : Queries) (xs rest : List ℕ)
      → others_written separator qs (xs ++ rest) ≡ others_written separator qs xs ++ rest
  others_written-append separator no_more xs rest = refl
  others_written-append separator (and_then q qs) xs rest =
      ap (λ t. separator ++ t) (ap (written q) (others_written-append separator qs xs rest)
      ∙ written-append q (others_written separator qs xs) rest)
      ∙ sym (append_assoc separator (written q (others_written separator qs xs)) rest)

-- ---- lists of parts

-- what a sink shows, where two pieces are shown as one
module _ {V : Type 0} (after : V → List ℕ → V)
    (joined : (s : V) (x y : List ℕ) → after (after s x) y ≡ after s (x ++ y)) where
  -- after `(` and the first part, the other parts are what is left to write
  pub parts_begun : (base s1 s2 : V) (separator : List ℕ) (first : Query)
      (others parts : List Query) → parts ≡ first ∷ others → s1 ≡ after base (40 ∷ [])
      → s2 ≡ after s1 (canonical first)
      → after s2 (others_written separator (queries others) (41 ∷ []))
      ≡ after base (40 ∷ parts_written separator (queries parts) (41 ∷ []))
  parts_begun base s1 s2 separator first others parts is e1 e2 =
      let rest = others_written separator (queries others) (41 ∷ []) in
      let all = canonical first ++ rest in
      on after joined s1 s2 (after base (40 ∷ all)) (canonical first) rest all refl
      (ap (λ s. after s all) e1 ∙ joined base (40 ∷ []) all) e2
      ∙ ap (λ t. after base (40 ∷ t)) (sym (written-append first [] rest))
      ∙ ap (λ ps. after base (40 ∷ parts_written separator (queries ps) (41 ∷ []))) (sym is)

  -- one part more is written, and the whole stays what it was
  pub parts_on : (out s out' base : V) (separator : List ℕ) (others : List Query) (i : ℕ)
      (q : Query) → i < length others → q ≡ get_or others i q
      → after out (others_written separator (queries (drop i others)) (41 ∷ [])) ≡ base
      → s ≡ after out separator → out' ≡ after s (canonical q)
      → after out' (others_written separator (queries (drop (i + 1) others)) (41 ∷ [])) ≡ base
  parts_on out s out' base separator others i q below is so_far e1 e2 =
      let rest = others_written separator (queries (drop (i + 1) others)) (41 ∷ []) in
      let all = canonical q ++ rest in
      on after joined s out' base (canonical q) rest all refl
      (on after joined out s base separator all _
      (parts_here (λ qs. others_written separator qs (41 ∷ [])) others i q below is
      ∙ ap (λ t. separator ++ t) (written-append q [] rest)) so_far e1) e2
