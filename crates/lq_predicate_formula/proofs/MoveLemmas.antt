-- The moves of the machine: the steps that it takes, one by one, and steps over two lists.
use Rattle.std.proofs.Common.{◌≡◌, ◌⊎◌, ℕ, suc, List, [], ◌∷◌, ◌++◌, Option, Some, None, refl, sym, ap, ◌∙◌, subst, inl, inr, option_and_then}
use Rattle.std.specs.Prelude.{option_map}
use Rattle.std.proofs.lemmas.Option.{none-some, option_and_then_some, same_Some}
use Rattle.lq_value.specs.declared.literal.Literal.{Literal}
use Rattle.lq_value.specs.declared.op.Op.{Op}
use Rattle.lq_predicate_formula.specs.Tokens.{Token, opens, closes, bang, ands, ors, op, word}
use Rattle.lq_predicate_formula.specs.Literals.{name_of, literal_of}
use Rattle.lq_predicate_formula.specs.Query.{Query, Compare, both_of}
use Rattle.lq_predicate_formula.specs.Grammar.{nesting}
use Rattle.lq_predicate_formula.specs.Machine.{Frame, Expected, operand, after_attr, after_op, after_operand, MachineState, completed, empty_frame, run_tokens, said_by, start, step_token, steps}

-- a state by its parts
abbrev pub at : Expected → List Frame → Frame → ℕ → MachineState
at p below f n = record { below = below; top = f; expected = p; room = n }

-- a frame with one `!` more
abbrev pub negated : Frame → Frame
negated f = record { or_parts = f.or_parts; and_parts = f.and_parts; bangs = suc f.bangs }

-- a frame after `&&`
abbrev pub behind_and : Frame → Frame
behind_and f = record { or_parts = f.or_parts; and_parts = f.and_parts; bangs = 0 }

-- a frame after `||`
abbrev pub behind_or : Frame → Frame
behind_or f =
    record { or_parts = f.or_parts ++ both_of f.and_parts ∷ []; and_parts = []; bangs = 0 }

-- a step from a state, over a token that may stand there, to a state
pub data Move : MachineState → Token → MachineState → Type 0 where
  enter : (below : List Frame) (f : Frame) (n : ℕ)
      → Move (at operand below f (suc n)) opens (at operand (f ∷ below) empty_frame n)
  deny : (below : List Frame) (f : Frame) (n : ℕ)
      → Move (at operand below f (suc n)) bang (at operand below (negated f) n)
  attribute : (below : List Frame) (f : Frame) (n : ℕ) (raw attr : List ℕ) → name_of raw ≡ Some attr
      → Move (at operand below f n) (word raw) (at (after_attr attr) below f n)
  operator : (below : List Frame) (f : Frame) (n : ℕ) (a : List ℕ) (o : Op)
      → Move (at (after_attr a) below f n) (op o) (at (after_op a o) below f n)
  complete : (below : List Frame) (f : Frame) (n : ℕ) (a : List ℕ) (o : Op) (raw : List ℕ)
      (literal : Literal) → literal_of o raw ≡ Some literal
      → Move (at (after_op a o) below f n) (word raw) (completed (Compare a o literal) below f n)
  one_and : (below : List Frame) (f : Frame) (n : ℕ)
      → Move (at after_operand below f n) ands (at operand below (behind_and f) n)
  one_or : (below : List Frame) (f : Frame) (n : ℕ)
      → Move (at after_operand below f n) ors (at operand below (behind_or f) n)
  leave : (g : Frame) (below : List Frame) (f : Frame) (n : ℕ)
      → Move (at after_operand (g ∷ below) f n) closes (completed (said_by f) below g (suc n))

-- what a value was mapped from
mapped : {A : Type 0} (o : Option A) (f : A → MachineState) (s : MachineState)
    → option_map f o ≡ Some s → (x : A) × (o ≡ Some x) × (f x ≡ s)
mapped None f s e = absurd (none-some s e)
mapped (Some x) f s e = (x, refl, same_Some (f x) s e)

-- a move to a state that is this one
to : {x y s : MachineState} {t : Token} → Some y ≡ Some s → Move x t y → Move x t s
to {x} {y} {s} {t} e m = subst (Move x t) (same_Some y s e) m

-- a step that is taken is a move, by the parts of its state
moved : (p : Expected) (below : List Frame) (f : Frame) (n : ℕ) (t : Token) (s : MachineState)
    → step_token (at p below f n) t ≡ Some s → Move (at p below f n) t s
moved operand below f (suc n) opens s e = to e (enter below f n)
moved operand below f (suc n) bang s e = to e (deny below f n)
moved operand below f n (word w) s e =
    let h = mapped (name_of w) (λ a. at (after_attr a) below f n) s e in
    to (ap Some h.2) (attribute below f n w h.0 h.1)
moved (after_attr a) below f n (op o) s e = to e (operator below f n a o)
moved (after_op a o) below f n (word w) s e =
    let h = mapped (literal_of o w) (λ l. completed (Compare a o l) below f n) s e in
    to (ap Some h.2) (complete below f n a o w h.0 h.1)
moved after_operand below f n ands s e = to e (one_and below f n)
moved after_operand below f n ors s e = to e (one_or below f n)
moved after_operand (g ∷ below) f n closes s e = to e (leave g below f n)
moved p below f n t s e = absurd (none-some s e)

-- a step that is taken is a move
pub move : (x : MachineState) (t : Token) (s : MachineState) → step_token x t ≡ Some s → Move x t s
move x t s e = moved x.expected x.below x.top x.room t s e

-- ---- steps over two lists

-- where a step and what follows it lead on, the step leads to a state, and the rest on from there
pub led : {B : Type 0} (f : MachineState → Option B) (o : Option MachineState) (y : B)
    → option_and_then f o ≡ Some y → (x : MachineState) × (o ≡ Some x) × (f x ≡ Some y)
led f o y e = option_and_then_some f o y e (λ x h k. (x, h, k))

-- where steps over two lists lead to a state, the state between
pub split_steps : (ts us : List Token) (x s : MachineState) → steps x (ts ++ us) ≡ Some s
    → (y : MachineState) × (steps x ts ≡ Some y) × (steps y us ≡ Some s)
split_steps [] us x s e = (x, refl, e)
split_steps (t ∷ ts) us x s e =
    let h = led (λ y. steps y (ts ++ us)) (step_token x t) s e in
    let k = split_steps ts us h.0 s h.2 in
    (k.0, ap (option_and_then (λ y. steps y ts)) h.1 ∙ k.1, k.2)

-- steps over two lists are those over the second, from where the first has led
pub steps_on : (ts us : List Token) (x s : MachineState) → steps x ts ≡ Some s
    → steps x (ts ++ us) ≡ steps s us
steps_on [] us x s e = ap (λ y. steps y us) (same_Some x s e)
steps_on (t ∷ ts) us x s e =
    let h = led (λ y. steps y ts) (step_token x t) s e in
    ap (option_and_then (λ y. steps y (ts ++ us))) h.1 ∙ steps_on ts us h.0 s h.2

-- an option that is passed on as `Some` is itself
same_some : (r : Option MachineState) → option_and_then (λ s. Some s) r ≡ r
same_some None = refl
same_some (Some s) = refl

-- one token more
pub steps_push : (ts : List Token) (t : Token) (x s : MachineState) → steps x ts ≡ Some s
    → steps x (ts ++ t ∷ []) ≡ step_token s t
steps_push ts t x s e = steps_on ts (t ∷ []) x s e ∙ same_some (step_token s t)

-- where steps lead to a state, tokens after them run as from that state
pub steps_run : (ts : List Token) (x s : MachineState) (rest : List Token) → steps x ts ≡ Some s
    → run_tokens x (ts ++ rest) ≡ run_tokens s rest
steps_run [] x s rest e = ap (λ y. run_tokens y rest) (same_Some x s e)
steps_run (t ∷ ts) x s rest e =
    let h = led (λ y. steps y ts) (step_token x t) s e in
    ap (option_and_then (λ y. run_tokens y (ts ++ rest))) h.1 ∙ steps_run ts h.0 s rest h.2

-- tokens that begin what is read lead to a state
pub comes : (ts rest : List Token) (x : MachineState) (q : Query)
    → run_tokens x (ts ++ rest) ≡ Some q → (s : MachineState) × (steps x ts ≡ Some s)
comes [] rest x q e = (x, refl)
comes (t ∷ ts) rest x q e =
    let h = led (λ y. run_tokens y (ts ++ rest)) (step_token x t) q e in
    let c = comes ts rest h.0 q h.2 in
    (c.0, ap (option_and_then (λ y. steps y ts)) h.1 ∙ c.1)

-- ---- the last token

-- a list is empty, or has a last token
last_of : (ts : List Token)
    → (ts ≡ []) ⊎ ((front : List Token) × (t : Token) × (ts ≡ front ++ t ∷ []))
last_of [] = inl refl
last_of (t ∷ ts) = elim (last_of ts) [
  | inl e ↦ inr ([], t, ap (λ us. t ∷ us) e)
  | inr k ↦ inr (t ∷ k.0, k.1, ap (λ us. t ∷ us) k.2)
]

-- the move over the last token
pub last_move : (front : List Token) (t : Token) (s : MachineState)
    → steps (start nesting) (front ++ t ∷ []) ≡ Some s → (x : MachineState) × Move x t s
last_move front t s e =
    let d = split_steps front (t ∷ []) (start nesting) s e in
    (d.0, move d.0 t s (sym (same_some (step_token d.0 t)) ∙ d.2))

-- the operator whose literal is awaited at a place
abbrev op_of_expected : Expected → Option Op
op_of_expected (after_op a o) = Some o
op_of_expected p = None

-- the operator whose literal is awaited in a state
abbrev op_of : MachineState → Option Op
op_of s = op_of_expected s.expected

-- what leads to a state behind an operator is that operator
move_op : (o : Op) {x s : MachineState} {t : Token} → Move x t s → op_of s ≡ Some o → t ≡ op o
move_op o (enter below f n) h = absurd (none-some o h)
move_op o (deny below f n) h = absurd (none-some o h)
move_op o (attribute below f n raw attr e) h = absurd (none-some o h)
move_op o (operator below f n a u) h = ap op (same_Some u o h)
move_op o (complete below f n a u raw literal e) h = absurd (none-some o h)
move_op o (one_and below f n) h = absurd (none-some o h)
move_op o (one_or below f n) h = absurd (none-some o h)
move_op o (leave g below f n) h = absurd (none-some o h)

-- tokens that lead to a state behind an operator end with that operator
pub front_by : (ts : List Token) (s : MachineState) (o : Op) → op_of s ≡ Some o
    → steps (start nesting) ts ≡ Some s → (front : List Token) × (ts ≡ front ++ op o ∷ [])
front_by ts s o h e = elim (last_of ts) [
  | inl none ↦
      let same = same_Some (start nesting) s (ap (steps (start nesting)) (sym none) ∙ e) in
      absurd (none-some o (ap op_of same ∙ h))
  | inr k ↦
      let m = last_move k.0 k.1 s (subst (λ us. steps (start nesting) us ≡ Some s) k.2 e) in
      (k.0, k.2 ∙ ap (λ u. k.0 ++ u ∷ []) (move_op o m.1 h))
]

-- a state behind an operator awaits its literal
pub op_place : {x s : MachineState} {o : Op} → Move x (op o) s
    → (a : List ℕ) × (s.expected ≡ after_op a o)
op_place (operator below f n a o) = (a, refl)
