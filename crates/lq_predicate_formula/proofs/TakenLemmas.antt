-- Words and operators on the way between two states; a token that is taken is not at fault.
use Rattle.std.proofs.Common.{◌≡◌, ◌+◌, ℕ, List, [], ◌∷◌, Some, refl, subst, arith, ◌≤◌, ◌++◌, None, sym, ap, ◌∙◌}
use Rattle.std.proofs.lemmas.Option.{same_Some, none-some}
use Rattle.std.specs.Prelude.{Result, Ok, Err}
use Rattle.std.proofs.lemmas.List.{map-append}
use Rattle.std.specs.Result.{result_err}
use Rattle.lq_value.specs.Element.{Element}
use Rattle.lq_value.specs.declared.op.Op.{Op}
use Rattle.lq_value.specs.declared.op.Op.TheVariants.{Eq, Ne}
use Rattle.lq_value.specs.Source.{pattern_of}
use Rattle.lq_predicate_formula.specs.Tokens.{Token, word, Placed, op, lone, cut, bare}
use Rattle.lq_predicate_formula.specs.Grammar.{nesting}
use Rattle.lq_predicate_formula.specs.Machine.{Expected, operand, after_attr, after_op, MachineState, start, step_token, steps, after_operand, step_at}
use Rattle.lq_predicate_formula.specs.Faults.{AwaitsAttr, IsFaultOf, one_more, most_comparisons, operators, AreFine, stray, cut_off, alone, too_deep, bad_name, bad_pattern}
use Rattle.lq_predicate_formula.specs.Literals.{literal_fault, literal_of, name_of, pattern_literal}
use Rattle.lq_predicate_formula.proofs.MoveLemmas.{at, led, move, Move, attribute, operator, complete, last_move, split_steps, steps_push}
use Rattle.lq_predicate_formula.proofs.WordLemmas.{words, words_append}
use Rattle.lq_predicate_formula.proofs.RefusedLemmas.{awaits_attr}
use Rattle.lq_predicate_formula.proofs.StopLemmas.{begun_at, can_stand}
use Rattle.lq_predicate_formula.proofs.OutlineLemmas.{Balances, Outline, move_keeps, outline_of, outline_steps, stands_outline}

-- ---- words and operators

-- steps keep two words for each operator, but for what is still awaited
pub balanced : (ts : List Token) (x s : MachineState) → steps x ts ≡ Some s
    → Balances x.expected (words ts) (operators ts) s.expected
balanced [] x s e =
    subst (λ y. Balances x.expected 0 0 y.expected) (same_Some x s e) (omega arith)
balanced (t ∷ ts) x s e =
    let h = led (λ y. steps y ts) (step_token x t) s e in
    let here = (move_keeps (move x t h.0 h.1)).1 in
    let others = balanced ts h.0 s h.2 in
    omega arith

-- a word that is taken behind so many: of the 257th comparison
full_at : (ts : List Token) {x s : MachineState} {w : List ℕ} → Move x (word w) s
    → steps (start nesting) ts ≡ Some x → words ts ≡ most_comparisons + most_comparisons
    → AwaitsAttr ts × (operators ts ≡ most_comparisons)
full_at ts (attribute below f n raw attr h) e m =
    let b = balanced ts (start nesting) (at operand below f n) e in
    (awaits_attr ts below f n e, omega arith)
full_at ts (complete below f n a o raw literal h) e m =
    let b = balanced ts (start nesting) (at (after_op a o) below f n) e in
    absurd (omega arith)

-- a word that is taken after the most words is at fault as one comparison too many
pub full : (end : ℕ) (ts : List Token) (s s' : MachineState) (here : Placed) (w : List ℕ)
    → steps (start nesting) ts ≡ Some s → words ts ≡ most_comparisons + most_comparisons
    → here.token ≡ word w → step_token s here.token ≡ Some s' → IsFaultOf end ts here here.offset
full end ts s s' here w e m h g =
    let k = full_at ts (move s (word w) s' (subst (λ t. step_token s t ≡ Some s') h g)) e m in
    one_more w h k.0 k.1 refl

-- ---- what is taken

-- neither a text that is cut off nor a lone `&` or `|` is ever taken
pub never : (p : Expected) (s s' : MachineState)
    → (step_at p s cut ≡ Some s' → ⊥) × (step_at p s lone ≡ Some s' → ⊥)
never operand s s' = (none-some s', none-some s')
never (after_attr a) s s' = (none-some s', none-some s')
never (after_op a o) s s' = (none-some s', none-some s')
never after_operand s s' = (none-some s', none-some s')

-- a name is taken only where it is one, if an attribute is awaited
never_nameless : {x s : MachineState} {w : List ℕ} → Move x (word w) s → name_of w ≡ None
    → (o : Outline) → outline_steps (outline_of x) (word [] ∷ op Eq ∷ []) ≡ Some o → ⊥
never_nameless (attribute below f n raw attr e) h o k = none-some attr (sym h ∙ e)
never_nameless (complete below f n a u raw literal e) h o k = none-some o k

-- what has a fault is no pattern
literal_by : (r : Result (List Element) ℕ) (k : ℕ) → result_err r ≡ Some k
    → pattern_literal r ≡ None
literal_by (Ok es) k e = absurd (none-some k e)
literal_by (Err j) k e = refl

-- a word with a fault is no literal of its operator
no_literal : (o : Op) (w : List ℕ) (k : ℕ) → literal_fault o w ≡ Some k → literal_of o w ≡ None
no_literal Eq w k e = literal_by (pattern_of w) k e
no_literal Ne w k e = literal_by (pattern_of w) k e
no_literal o w k e = absurd (none-some k e)

-- after an operator, a word with a fault is not taken
never_bad_at : {x s s' : MachineState} {o : Op} {w : List ℕ} (k : ℕ) → Move x (op o) s
    → Move s (word w) s' → literal_fault o w ≡ Some k → ⊥
never_bad_at k (operator below f n a o) (complete below' f' n' a' o' w literal e) h =
    none-some literal (sym (no_literal o w k h) ∙ e)

-- after tokens that end with an operator, a word with a fault is not taken
pub never_bad : (front : List Token) (o : Op) (w : List ℕ) (k : ℕ) (s s' : MachineState)
    → steps (start nesting) (front ++ op o ∷ []) ≡ Some s → step_token s (word w) ≡ Some s'
    → literal_fault o w ≡ Some k → ⊥
never_bad front o w k s s' e g h =
    never_bad_at k (last_move front (op o) s e).1 (move s (word w) s' g) h

-- where a name is awaited and a word more is allowed, there are not the most comparisons
never_full : (ts : List Token) {x s : MachineState} {w : List ℕ} → Move x (word w) s
    → steps (start nesting) ts ≡ Some x → operators ts ≡ most_comparisons
    → words (ts ++ word w ∷ []) ≤ most_comparisons + most_comparisons → (o : Outline)
    → outline_steps (outline_of x) (word [] ∷ op Eq ∷ []) ≡ Some o → ⊥
never_full ts (attribute below f n raw attr h) e m few o k =
    let b = balanced ts (start nesting) (at operand below f n) e in
    omega (arith, words_append ts (word raw ∷ []))
never_full ts (complete below f n a u raw literal h) e m few o k = none-some o k

-- a token that is taken, with no more than so many words, is at no fault
taken_fine : (end : ℕ) (front : List Token) (here : Placed) (s s' : MachineState) (p : ℕ)
    → steps (start nesting) front ≡ Some s → step_token s here.token ≡ Some s'
    → words (front ++ here.token ∷ []) ≤ most_comparisons + most_comparisons
    → IsFaultOf end front here p → ⊥
taken_fine end front here s s' p e g few (stray h i j) =
    h (can_stand (front ++ here.token ∷ []) (front ++ here.token ∷ []) s'
    (steps_push front here.token (start nesting) s e ∙ g) refl)
taken_fine end front here s s' p e g few (cut_off h j) =
    (never s.expected s s').0 (subst (λ t. step_token s t ≡ Some s') h g)
taken_fine end front here s s' p e g few (alone h j) =
    (never s.expected s s').1 (subst (λ t. step_token s t ≡ Some s') h g)
taken_fine end front here s s' p e g few (too_deep h d j) = d.1 (begun_at nesting
    (front ++ here.token ∷ []) s' (steps_push front here.token (start nesting) s e ∙ g))
taken_fine end front here s s' p e g few (bad_name w h a n j) =
    let o = stands_outline nesting front (word [] ∷ op Eq ∷ []) s e a in
    never_nameless (move s (word w) s' (subst (λ t. step_token s t ≡ Some s') h g)) n o.0 o.1
taken_fine end front here s s' p e g few (one_more w h a m j) =
    let o = stands_outline nesting front (word [] ∷ op Eq ∷ []) s e a in
    never_full front (move s (word w) s' (subst (λ t. step_token s t ≡ Some s') h g)) e m
    (subst (λ t. words (front ++ t ∷ []) ≤ most_comparisons + most_comparisons) h few) o.0 o.1
taken_fine end front here s s' p e g few (bad_pattern f o w k split h i j) =
    never_bad f o w k s s' (subst (λ ts. steps (start nesting) ts ≡ Some s) split e)
    (subst (λ t. step_token s t ≡ Some s') h g) i

-- tokens that are taken, with no word too many, are not at fault
pub fine : (end : ℕ) (seen : List Placed) (s : MachineState)
    → steps (start nesting) (bare seen) ≡ Some s
    → words (bare seen) ≤ most_comparisons + most_comparisons → AreFine end seen
fine end seen s e few before here after p split fault =
    let t = here.token in
    let parts : bare seen ≡ bare before ++ t ∷ bare after =
    ap bare split ∙ map-append (λ x. x.token) before (here ∷ after) in
    let d = split_steps (bare before) (t ∷ bare after) (start nesting) s
    (subst (λ ts. steps (start nesting) ts ≡ Some s) parts e) in
    let g = led (λ y. steps y (bare after)) (step_token d.0 t) s d.2 in
    let all : words (bare before ++ t ∷ bare after) ≤ most_comparisons + most_comparisons =
    subst (λ ts. words ts ≤ most_comparisons + most_comparisons) parts few in
    let this : words (bare before ++ t ∷ []) ≤ most_comparisons + most_comparisons = omega
    (arith, words_append (bare before) (t ∷ bare after), words_append (bare before) (t ∷ [])) in
    taken_fine end (bare before) here d.0 g.0 p d.1 g.1 this fault
