-- Each state leads to a formula, so the first token that can't be taken is the first fault.
use Rattle.std.proofs.Common.{◌≡◌, ℕ, suc, ◌+◌, List, [], ◌∷◌, ◌++◌, map, Some, None, option_and_then, refl, sym, ap, ◌∙◌, append_assoc, append-nil, false}
use Rattle.std.specs.Prelude.{option_map, Ok}
use Rattle.std.proofs.lemmas.Option.{none-some}
use Rattle.lq_value.specs.declared.op.Op.{Op}
use Rattle.lq_value.specs.declared.op.Op.TheVariants.{Eq, Ne}
use Rattle.std.proofs.lemmas.Str.{chars-nil}
use Rattle.lq_value.specs.declared.literal.Literal.{Literal}
use Rattle.lq_value.specs.declared.literal.Literal.TheVariants.{Pattern, Plain}
use Rattle.lq_value.specs.Sign.{signs}
use Rattle.lq_value.specs.Source.{element_at, elements_or_offset, pattern_of, pieces_of, pieces_within}
use Rattle.lq_predicate_formula.specs.Tokens.{Token, closes, op, word}
use Rattle.lq_predicate_formula.specs.Literals.{pattern_literal, literal_of}
use Rattle.lq_predicate_formula.specs.Query.{Query, Compare}
use Rattle.lq_predicate_formula.specs.Grammar.{IsFormula, nesting, IsBegun}
use Rattle.lq_predicate_formula.specs.Machine.{Frame, Expected, operand, after_attr, after_op, after_operand, MachineState, start, frame_with, completed, said_by, step_token, run_tokens, finished_query, steps}
use Rattle.lq_predicate_formula.specs.Faults.{CanStand, kind_of}
use Rattle.lq_predicate_formula.proofs.CompleteLemmas.{formula_runs}
use Rattle.lq_predicate_formula.proofs.MoveLemmas.{at, steps_run}
use Rattle.lq_predicate_formula.proofs.SoundLemmas.{run_reads}

-- tokens that lead from a state to a query
abbrev Leads : MachineState → Type 0
Leads s = (rest : List Token) × (q : Query) × (run_tokens s rest ≡ Some q)

-- after an operand, as many `)` as frames are open lead to a formula
leads_behind : (below : List Frame) (f : Frame) (n : ℕ) → Leads (at after_operand below f n)
leads_behind [] f n = ([], said_by f, refl)
leads_behind (g ∷ gs) f n =
    let h = leads_behind gs (frame_with (said_by f) g) (suc n + g.bangs) in
    (closes ∷ h.0, h.1, h.2)

-- the empty text is the source of the empty pattern
empty_pattern : pattern_of [] ≡ Ok []
unfolding pieces_of pieces_within
empty_pattern = ap (λ cs. elements_or_offset [] (pieces_of element_at (signs false cs))) chars-nil

-- the empty text is a literal behind each operator
pub empty_literal : (o : Op) → (literal : Literal) × (literal_of o [] ≡ Some literal)
empty_literal Eq = (Pattern [], ap pattern_literal empty_pattern)
empty_literal Ne = (Pattern [], ap pattern_literal empty_pattern)
empty_literal o = (Plain [], refl)

-- after an operator, the empty word completes a comparison
leads_op : (a : List ℕ) (o : Op) (below : List Frame) (f : Frame) (n : ℕ)
    → Leads (at (after_op a o) below f n)
leads_op a o below f n =
    let e = empty_literal o in
    let h = leads_behind below (frame_with (Compare a o e.0) f) (n + f.bangs) in (
      word [] ∷ h.0,
      h.1,
      ap (λ r. option_and_then (λ s. run_tokens s h.0)
          (option_map (λ literal. completed (Compare a o literal) below f n) r)) e.1 ∙ h.2,
    )

-- each state leads to a formula: a name, `=` and an empty word are put where they lack
leads_on : (p : Expected) (below : List Frame) (f : Frame) (n : ℕ) → Leads (at p below f n)
leads_on operand below f n =
    let h = leads_op (97 ∷ []) Eq below f n in
    (word (97 ∷ []) ∷ op Eq ∷ h.0, h.1, h.2)
leads_on (after_attr a) below f n =
    let h = leads_op a Eq below f n in
    (op Eq ∷ h.0, h.1, h.2)
leads_on (after_op a o) below f n = leads_op a o below f n
leads_on after_operand below f n = leads_behind below f n

-- tokens that are taken begin a formula
pub begun_at : (n : ℕ) (ts : List Token) (s : MachineState) → steps (start n) ts ≡ Some s
    → (rest : List Token) × (q : Query) × IsFormula n (ts ++ rest) q
begun_at n ts s e =
    let h = leads_on s.expected s.below s.top s.room in
    (h.0, h.1, run_reads n (ts ++ h.0) h.1 (steps_run ts (start n) s h.0 e ∙ h.2))

-- tokens of the kinds of some that are taken can stand
pub can_stand : (ts us : List Token) (s : MachineState) → steps (start nesting) us ≡ Some s
    → map kind_of us ≡ map kind_of ts → CanStand ts
can_stand ts us s e alike =
    let b = begun_at nesting us s e in
    record { words = us; alike = alike; deep = nesting; rest = b.0; q = b.1; formula = b.2 }

-- tokens with one after them that is refused begin no formula
pub not_begun : (ts : List Token) (t : Token) (s : MachineState)
    → steps (start nesting) ts ≡ Some s → step_token s t ≡ None → IsBegun (ts ++ t ∷ []) → ⊥
not_begun ts t s e f b =
    let reads = formula_runs nesting ((ts ++ t ∷ []) ++ b.0) b.1 b.2 in
    let fails : run_tokens s (t ∷ b.0) ≡ None = ap (option_and_then (λ s'. run_tokens s' b.0)) f in
    none-some b.1 (sym fails ∙ sym (steps_run ts (start nesting) s (t ∷ b.0) e)
    ∙ ap (run_tokens (start nesting)) (sym (append_assoc ts (t ∷ []) b.0)) ∙ reads)

-- where all tokens are taken and a query is whole, they are a formula of that query
pub reads_at_end : (all : List Token) (s : MachineState) (q : Query)
    → steps (start nesting) all ≡ Some s → finished_query s ≡ Some q → IsFormula nesting all q
reads_at_end all s q g f = run_reads nesting all q
    (ap (run_tokens (start nesting)) (sym (append-nil all))
    ∙ steps_run all (start nesting) s [] g ∙ f)

-- where all tokens are taken and no query is whole, they are no formula
pub ends_none : (all : List Token) (s : MachineState) → steps (start nesting) all ≡ Some s
    → finished_query s ≡ None
    → (q : Query) → IsFormula nesting all q → ⊥
ends_none all s g f q h = none-some q (sym f ∙ sym (steps_run all (start nesting) s [] g)
    ∙ ap (run_tokens (start nesting)) (append-nil all) ∙ formula_runs nesting all q h)
