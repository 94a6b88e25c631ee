-- Where a formula stands behind tokens, by their kinds alone; what can't stand there.
use Rattle.std.proofs.Common.{◌≡◌, ◌+◌, ℕ, zero, suc, List, [], ◌∷◌, ◌++◌, length, map, Option, Some, None, refl, sym, ap, ◌∙◌, option_and_then}
use Rattle.std.specs.Prelude.{option_map}
use Rattle.std.proofs.lemmas.List.{map-append}
use Rattle.std.proofs.lemmas.Option.{none-some, option_and_then_some, same_Some}
use Rattle.lq_value.specs.declared.op.Op.TheVariants.{Eq}
use Rattle.lq_predicate_formula.specs.Tokens.{Token, opens, closes, bang, ands, ors, op, word}
use Rattle.lq_predicate_formula.specs.Machine.{Expected, operand, after_attr, after_op, after_operand, MachineState, start, step_token, steps}
use Rattle.lq_predicate_formula.specs.Faults.{CanStand, kind_of, op_count}
use Rattle.lq_predicate_formula.specs.MachineReading.{word_count}
use Rattle.lq_predicate_formula.proofs.CompleteLemmas.{formula_runs}
use Rattle.lq_predicate_formula.proofs.MoveLemmas.{comes, led, move, Move, enter, deny, attribute, operator, complete, one_and, one_or, leave}

-- what is expected, and how many parentheses are open
pub record Outline : Type 0 where
  pub expected : Expected
  pub parens : ℕ

-- what is expected, without its name and operator
abbrev kind_expected : Expected → Expected
kind_expected (after_attr a) = after_attr []
kind_expected (after_op a o) = after_op [] Eq
kind_expected p = p

-- the outline of a state
abbrev pub outline_of : MachineState → Outline
outline_of s = record { expected = kind_expected s.expected; parens = length s.below }

-- one parenthesis less is open, if one was
abbrev closed : ℕ → Option Outline
closed zero = None
closed (suc n) = Some (record { expected = after_operand; parens = n })

-- the outline after a token, by what is expected
abbrev outline_at : Expected → ℕ → Token → Option Outline
outline_at operand n opens = Some (record { expected = operand; parens = suc n })
outline_at operand n bang = Some (record { expected = operand; parens = n })
outline_at operand n (word w) = Some (record { expected = after_attr []; parens = n })
outline_at (after_attr a) n (op u) = Some (record { expected = after_op [] Eq; parens = n })
outline_at (after_op a o) n (word w) = Some (record { expected = after_operand; parens = n })
outline_at after_operand n closes = closed n
outline_at after_operand n ands = Some (record { expected = operand; parens = n })
outline_at after_operand n ors = Some (record { expected = operand; parens = n })
outline_at p n t = None

-- the outline after a token
abbrev pub outline_step : Outline → Token → Option Outline
outline_step o t = outline_at o.expected o.parens t

-- the outline after some tokens
abbrev pub outline_steps : Outline → List Token → Option Outline
outline_steps o [] = Some o
outline_steps o (t ∷ ts) = option_and_then (λ o'. outline_steps o' ts) (outline_step o t)

-- a word whose operator is awaited, and an operator whose literal is
abbrev extra_word : Expected → ℕ
extra_word (after_attr a) = 1
extra_word p = 0

-- an operator whose literal is awaited
abbrev extra_op : Expected → ℕ
extra_op (after_op a o) = 1
extra_op p = 0

-- from one place to another by so many words and operators
abbrev pub Balances : Expected → ℕ → ℕ → Expected → Type 0
Balances p m n p' = m + extra_op p' + extra_word p ≡ n + n + extra_word p' + extra_op p

-- a move of the machine, in outline; it keeps two words for each operator, but for what is awaited
pub move_keeps : {x s : MachineState} {t : Token} → Move x t s
    → (outline_step (outline_of x) (kind_of t) ≡ Some (outline_of s))
    × Balances x.expected (word_count t) (op_count t) s.expected
move_keeps (enter below f n) = (refl, refl)
move_keeps (deny below f n) = (refl, refl)
move_keeps (attribute below f n raw attr e) = (refl, refl)
move_keeps (operator below f n a o) = (refl, refl)
move_keeps (complete below f n a o raw literal e) = (refl, refl)
move_keeps (one_and below f n) = (refl, refl)
move_keeps (one_or below f n) = (refl, refl)
move_keeps (leave g below f n) = (refl, refl)

-- steps of the machine, in outline
pub steps_outline : (ts : List Token) (x s : MachineState) → steps x ts ≡ Some s
    → outline_steps (outline_of x) (map kind_of ts) ≡ Some (outline_of s)
steps_outline [] x s e = ap (option_map outline_of) e
steps_outline (t ∷ ts) x s e =
    let h = led (λ y. steps y ts) (step_token x t) s e in
    ap (option_and_then (λ o. outline_steps o (map kind_of ts))) (move_keeps (move x t h.0 h.1)).0
    ∙ steps_outline ts h.0 s h.2

-- outlines over two lists are those over the second, from where the first has led
outline_on : (ts us : List Token) (o o' : Outline) → outline_steps o ts ≡ Some o'
    → outline_steps o (ts ++ us) ≡ outline_steps o' us
outline_on [] us o o' e = ap (λ x. outline_steps x us) (same_Some o o' e)
outline_on (t ∷ ts) us o o' e =
    option_and_then_some (λ x. outline_steps x ts) (outline_step o t) o' e (λ x h k.
    ap (option_and_then (λ y. outline_steps y (ts ++ us))) h ∙ outline_on ts us x o' k)

-- where tokens can stand, they go on in outline from where the first of them lead
pub stands_outline : (n : ℕ) (ts us : List Token) (s : MachineState) → steps (start n) ts ≡ Some s
    → CanStand (ts ++ us) → (o : Outline) × (outline_steps (outline_of s) (map kind_of us) ≡ Some o)
stands_outline n ts us s e c =
    let d = comes c.words c.rest (start c.deep) c.q
    (formula_runs c.deep (c.words ++ c.rest) c.q c.formula) in (
      outline_of d.0,
      sym (outline_on (map kind_of ts) (map kind_of us) (outline_of (start n)) (outline_of s)
          (steps_outline ts (start n) s e))
          ∙ ap (outline_steps (outline_of (start n))) (sym (map-append kind_of ts us) ∙ sym c.alike)
          ∙ steps_outline c.words (start c.deep) d.0 d.1,
    )

-- A token whose kind has no step in outline can't stand.
pub cannot : (n : ℕ) (ts : List Token) (t : Token) (s : MachineState) → steps (start n) ts ≡ Some s
    → outline_step (outline_of s) (kind_of t) ≡ None → CanStand (ts ++ t ∷ []) → ⊥
cannot n ts t s e f c =
    let h = stands_outline n ts (t ∷ []) s e c in
    none-some h.0 (sym (ap (option_and_then (λ o. Some o)) f) ∙ h.1)
