-- What the grammar reads, the machine reads, as the same query.
use Rattle.std.proofs.Common.{◌≡◌, ℕ, zero, suc, ◌+◌, List, [], ◌∷◌, ◌++◌, Some, refl, sym, ap, ◌∙◌, arith, append_assoc, append-nil, add-zero, inl, inr, option_and_then}
use Rattle.std.specs.Prelude.{option_map}
use Rattle.std.proofs.lemmas.Option.{same_Some}
use Rattle.lq_predicate_formula.specs.Tokens.{Token, closes, ands, ors, op, word}
use Rattle.lq_predicate_formula.specs.Query.{Query, Compare, Not, both_of, either_of}
use Rattle.lq_predicate_formula.specs.Grammar.{Reading, MoreParts, Parts, IsAnd, IsComparison, IsNot, IsFormula}
use Rattle.lq_predicate_formula.specs.Machine.{Frame, operand, after_attr, after_operand, MachineState, empty_frame, start, frame_with, completed, run_tokens}
use Rattle.lq_predicate_formula.proofs.MoveLemmas.{at, negated}

-- a frame with these parts, in which no `!` waits
abbrev frame : List Query → List Query → Frame
frame os xs = record { or_parts = os; and_parts = xs; bangs = 0 }

-- a state after an operand: these parts of the or, these of its last and, and this room
abbrev behind : List Frame → List Query → List Query → ℕ → MachineState
behind below os xs n = at after_operand below (frame os xs) n

-- the machine takes what P reads as an operand
abbrev Takes : ℕ → Reading → Type 0
Takes n P =
    (a : List Token) (q : Query) → P a q → (below : List Frame) (f : Frame) (rest : List Token)
    → run_tokens (at operand below f n) (a ++ rest) ≡ run_tokens (completed q below f n) rest

-- what the machine has of a formula that is read, where it ends
record Ends (below : List Frame) (n : ℕ) (s : MachineState) (ts rest : List Token)
    (parts : List Query) : Type 0 where
  pub os : List Query
  pub xs : List Query
  pub goes : run_tokens s (ts ++ rest) ≡ run_tokens (behind below os xs n) rest
  pub says : os ++ both_of xs ∷ [] ≡ parts

module _ (n : ℕ) (P : Reading) (takes : Takes n P) where
  -- an operand where no `!` waits
  operand_runs : (a : List Token) (q : Query) → P a q
      → (below : List Frame) (os xs : List Query) (rest : List Token)
      → run_tokens (at operand below (frame os xs) n) (a ++ rest)
      ≡ run_tokens (behind below os (xs ++ q ∷ []) n) rest
  operand_runs a q h below os xs rest = takes a q h below (frame os xs) rest
      ∙ ap (λ m. run_tokens (behind below os (xs ++ q ∷ []) m) rest) (add-zero n)

  -- the machine runs over `&&` and a part, as often as they follow, and has the parts in its frame
  ands_run : (ts : List Token) (qs : List Query) → MoreParts P ands ts qs
      → (below : List Frame) (os xs : List Query) (rest : List Token)
      → run_tokens (behind below os xs n) (ts ++ rest)
      ≡ run_tokens (behind below os (xs ++ qs) n) rest
  ands_run ts [] h below os xs rest =
      ap (λ l. run_tokens (behind below os xs n) (l ++ rest)) h
      ∙ ap (λ l. run_tokens (behind below os l n) rest) (sym (append-nil xs))
  ands_run ts (q ∷ qs) h below os xs rest =
      ap (λ l. run_tokens (behind below os xs n) (l ++ rest)) h.2
      ∙ ap (run_tokens (at operand below (frame os xs) n)) (append_assoc h.0 h.1 rest)
      ∙ operand_runs h.0 q h.3 below os xs (h.1 ++ rest)
      ∙ ands_run h.1 qs h.4 below os (xs ++ q ∷ []) rest
      ∙ ap (λ l. run_tokens (behind below os l n) rest) (append_assoc xs (q ∷ []) qs)

  -- the machine runs over a whole and, whose parts then stand in its frame
  and_runs : (ts : List Token) (r : Query) (h : IsAnd P ts r)
      (below : List Frame) (os : List Query) (rest : List Token)
      → run_tokens (at operand below (frame os []) n) (ts ++ rest)
      ≡ run_tokens (behind below os (h.0 ∷ h.1) n) rest
  and_runs ts r h below os rest = ands_run (ands ∷ ts) (h.0 ∷ h.1)
      (h.3.0, h.3.1, ap (λ l. ands ∷ l) h.3.2, h.3.3, h.3.4) below os [] rest

  -- the machine runs over ands and the `||` between them, and has them in its frame
  ors_run : (ts : List Token) (r : Query) (rs : List Query) → Parts (IsAnd P) ors ts r rs
      → (below : List Frame) (os : List Query) (rest : List Token)
      → Ends below n (at operand below (frame os []) n) ts rest (os ++ (r ∷ rs))
  ors_run ts r [] h below os rest = record {
    os = os;
    xs = h.3.0 ∷ h.3.1;
    goes = ap (λ l. run_tokens (at operand below (frame os []) n) (l ++ rest))
        (h.2 ∙ ap (λ b. h.0 ++ b) h.4 ∙ append-nil h.0) ∙ and_runs h.0 r h.3 below os rest;
    says = ap (λ q. os ++ q ∷ []) (sym h.3.2);
  }
  ors_run ts r (q ∷ qs) h below os rest =
      let k = h.4 in
      let more = os ++ r ∷ [] in
      let ends = ors_run (k.0 ++ k.1) q qs (k.0, k.1, refl, k.3, k.4) below more rest in
      record {
        os = ends.os;
        xs = ends.xs;
        goes = ap (λ l. run_tokens (at operand below (frame os []) n) (l ++ rest)) h.2
            ∙ ap (run_tokens (at operand below (frame os []) n)) (append_assoc h.0 h.1 rest)
            ∙ and_runs h.0 r h.3 below os (h.1 ++ rest)
            ∙ ap (λ l. run_tokens (behind below os (h.3.0 ∷ h.3.1) n) (l ++ rest)) k.2
            ∙ ap (λ p. run_tokens (at operand below (frame (os ++ p ∷ []) []) n)
            ((k.0 ++ k.1) ++ rest)) (sym h.3.2) ∙ ends.goes;
        says = ends.says ∙ append_assoc os (r ∷ []) (q ∷ qs);
      }

-- the machine takes a comparison, wherever an operand is awaited
comparison_runs : (n : ℕ) → Takes n IsComparison
comparison_runs n a q h below f rest =
    ap (λ l. run_tokens (at operand below f n) (l ++ rest)) h.5
    ∙ ap (λ r. option_and_then (λ s. run_tokens s (op h.1 ∷ word h.2 ∷ rest))
    (option_map (λ name. at (after_attr name) below f n) r)) h.6
    ∙ ap (λ r. option_and_then (λ s. run_tokens s rest)
    (option_map (λ literal. completed (Compare h.3 h.1 literal) below f n) r)) h.7
    ∙ ap (λ p. run_tokens (completed p below f n) rest) (sym h.8)

-- the machine takes whatever the grammar reads as an operand
not_runs : (n : ℕ) → Takes n (IsNot n)
not_runs zero a q h below f rest = comparison_runs zero a q h below f rest
not_runs (suc n) a q h below f rest = elim h [
  | inl c ↦ comparison_runs (suc n) a q c below f rest
  | inr g ↦ elim g [
    | inl p ↦
        let ends = ors_run n (IsNot n) (not_runs n) p.0 p.2.0 p.2.1 p.2.3 (f ∷ below) []
        (closes ∷ rest) in
        ap (λ l. run_tokens (at operand below f (suc n)) (l ++ rest)) p.1
        ∙ ap (run_tokens (at operand (f ∷ below) empty_frame n))
        (append_assoc p.0 (closes ∷ []) rest)
        ∙ ends.goes
        ∙ ap (λ r. run_tokens (completed r below f (suc n)) rest)
        (ap either_of ends.says ∙ sym p.2.2)
    | inr b ↦
        let same : n + suc f.bangs ≡ suc n + f.bangs = omega arith in
        ap (λ l. run_tokens (at operand below f (suc n)) (l ++ rest)) b.2
        ∙ not_runs n b.0 b.1 b.4 below (negated f) rest
        ∙ ap (λ m. run_tokens (at after_operand below (frame_with (Not b.1) f) m) rest) same
        ∙ ap (λ r. run_tokens (completed r below f (suc n)) rest) (sym b.3)
  ]
]

-- the machine reads each formula
pub formula_runs : (n : ℕ) (ts : List Token) (q : Query) → IsFormula n ts q
    → run_tokens (start n) ts ≡ Some q
formula_runs n ts q h =
    let ends = ors_run n (IsNot n) (not_runs n) ts h.0 h.1 h.3 [] [] [] in
    ap (run_tokens (start n)) (sym (append-nil ts)) ∙ ends.goes
    ∙ ap (λ ps. Some (either_of ps)) ends.says ∙ ap Some (sym h.2)

-- tokens read as one query at most
pub reads_one : (n : ℕ) (ts : List Token) (q r : Query)
    → IsFormula n ts q → IsFormula n ts r → q ≡ r
reads_one n ts q r h k = same_Some q r (sym (formula_runs n ts q h) ∙ formula_runs n ts r k)
