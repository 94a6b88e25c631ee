-- A token that the machine refuses is at fault; more room changes no step that less room takes.
use Rattle.std.proofs.Common.{◌≡◌, ℕ, suc, ◌+◌, List, [], ◌∷◌, ◌++◌, Some, refl, ap, ◌∙◌, arith, option_and_then, ◌⊎◌, zero, Option, None, sym, inl, inr}
use Rattle.std.specs.Prelude.{option_map, Result, Ok, Err}
use Rattle.std.proofs.lemmas.Option.{same_Some, none-some}
use Rattle.std.proofs.lemmas.List.{map-append}
use Rattle.std.specs.Result.{result_err}
use Rattle.lq_value.specs.Element.{Element}
use Rattle.lq_value.specs.declared.op.Op.{Op}
use Rattle.lq_value.specs.declared.op.Op.TheVariants.{Eq, Ne}
use Rattle.lq_value.specs.Source.{pattern_of}
use Rattle.lq_predicate_formula.specs.Tokens.{Token, opens, closes, bang, ands, ors, op, word, lone, cut, Placed}
use Rattle.lq_predicate_formula.specs.Query.{Compare}
use Rattle.lq_predicate_formula.specs.Machine.{operand, after_attr, after_operand, MachineState, deeper, empty_frame, frame_with, said_by, completed, step_token, steps, Frame, Expected, after_op, start}
use Rattle.lq_predicate_formula.specs.Literals.{literal_fault, literal_of, name_of, pattern_literal}
use Rattle.lq_predicate_formula.specs.Grammar.{nesting}
use Rattle.lq_predicate_formula.specs.Faults.{AwaitsAttr, IsFaultOf, stray, cut_off, alone, too_deep, bad_name, bad_pattern, kind_of}
use Rattle.lq_predicate_formula.specs.MachineReading.{fault_offset, pattern_fault, offset_at}
use Rattle.lq_predicate_formula.proofs.MoveLemmas.{at, led, move, negated, Move, enter, deny, attribute, operator, complete, one_and, one_or, leave, front_by, steps_on, steps_push}
use Rattle.lq_predicate_formula.proofs.StopLemmas.{begun_at, can_stand, not_begun}
use Rattle.lq_predicate_formula.proofs.OutlineLemmas.{cannot, outline_of, outline_step}

-- the same state with more room
abbrev pub wider : ℕ → MachineState → MachineState
wider k s = at s.expected s.below s.top (s.room + k)

-- room that one token takes may be taken before or after
suc_over : (n k : ℕ) → suc n + k ≡ suc (n + k)
suc_over n k = omega arith

-- a move is one with more room too, and that much is left over
move_wider : (k : ℕ) {x s : MachineState} {t : Token} → Move x t s
    → step_token (wider k x) t ≡ Some (wider k s)
move_wider k (enter below f n) =
    ap (λ m. deeper m (λ j. at operand (f ∷ below) empty_frame j)) (suc_over n k)
move_wider k (deny below f n) =
    ap (λ m. deeper m (λ j. at operand below (negated f) j)) (suc_over n k)
move_wider k (attribute below f n raw attr e) =
    ap (option_map (λ a. at (after_attr a) below f (n + k))) e
move_wider k (operator below f n a o) = refl
move_wider k (complete below f n a o raw literal e) =
    let room : n + k + f.bangs ≡ n + f.bangs + k = omega arith in
    ap (option_map (λ l. completed (Compare a o l) below f (n + k))) e
    ∙ ap (λ m. Some (at after_operand below (frame_with (Compare a o literal) f) m)) room
move_wider k (one_and below f n) = refl
move_wider k (one_or below f n) = refl
move_wider k (leave g below f n) =
    let room : suc (n + k) + g.bangs ≡ suc n + g.bangs + k = omega arith in
    ap (λ m. Some (at after_operand below (frame_with (said_by f) g) m)) room

-- tokens that are taken are taken with more room, and that much is left over
pub steps_wider : (k : ℕ) (ts : List Token) (x s : MachineState) → steps x ts ≡ Some s
    → steps (wider k x) ts ≡ Some (wider k s)
steps_wider k [] x s e = ap (λ y. Some (wider k y)) (same_Some x s e)
steps_wider k (t ∷ ts) x s e =
    let h = led (λ y. steps y ts) (step_token x t) s e in
    ap (option_and_then (λ y. steps y ts)) (move_wider k (move x t h.0 h.1))
    ∙ steps_wider k ts h.0 s h.2

-- ---- what is refused

-- a token at its offsets
abbrev here_of : ℕ → ℕ → Token → Placed
here_of offset raw t = record { offset = offset; raw_offset = raw; token = t }

-- a token that can't stand where it is refused is at fault as a stray one
stray_at : (end : ℕ) (ts : List Token) (s : MachineState) (offset raw : ℕ) (t : Token)
    → steps (start nesting) ts ≡ Some s → outline_step (outline_of s) (kind_of t) ≡ None
    → (t ≡ cut → ⊥) → IsFaultOf end ts (here_of offset raw t) offset
stray_at end ts s offset raw t e f h = stray (cannot nesting ts t s e f) h refl

-- a `(` or `!` that more room would take is at fault as too deep
deep_at : (end : ℕ) (ts : List Token) (s y : MachineState) (offset raw : ℕ) (t : Token)
    → steps (start nesting) ts ≡ Some s → step_token s t ≡ None → (t ≡ opens) ⊎ (t ≡ bang)
    → step_token (wider 1 s) t ≡ Some y → IsFaultOf end ts (here_of offset raw t) offset
deep_at end ts s y offset raw t e f h g =
    let b = begun_at (nesting + 1) (ts ++ t ∷ []) y (steps_push ts t (start (nesting + 1))
    (wider 1 s) (steps_wider 1 ts (start nesting) s e) ∙ g) in
    too_deep h ((1, b.0, b.1, b.2), not_begun ts t s e f) refl

-- tokens that lead to where an operand is awaited may go on with a name
pub awaits_attr : (ts : List Token) (below : List Frame) (f : Frame) (n : ℕ)
    → steps (start nesting) ts ≡ Some (at operand below f n) → AwaitsAttr ts
awaits_attr ts below f n e =
    let us = word (97 ∷ []) ∷ op Eq ∷ [] in
    can_stand (ts ++ word [] ∷ op Eq ∷ []) (ts ++ us) (at (after_op (97 ∷ []) Eq) below f n)
    (steps_on ts us (start nesting) (at operand below f n) e)
    (map-append kind_of ts us ∙ sym (map-append kind_of ts (word [] ∷ op Eq ∷ [])))

-- nothing is both Some and None
some_none : {A : Type 0} {X : Type 0} (x : A) → Some x ≡ None → X
some_none x e = absurd (none-some x (sym e))

-- where a map of an option is None, the option is
none_of : {A : Type 0} (r : Option A) (f : A → MachineState) → option_map f r ≡ None → r ≡ None
none_of None f e = refl
none_of (Some x) f e = some_none (f x) e

-- what is no pattern has an offset at which it is bad
bad_by : (r : Result (List Element) ℕ) → pattern_literal r ≡ None
    → (k : ℕ) × (result_err r ≡ Some k)
bad_by (Ok es) e = some_none _ e
bad_by (Err k) e = (k, refl)

-- a word that is no literal of the operator has an offset at which it is bad
bad_literal : (o : Op) (w : List ℕ) → literal_of o w ≡ None → (k : ℕ) × (literal_fault o w ≡ Some k)
bad_literal Eq w e = bad_by (pattern_of w) e
bad_literal Ne w e = bad_by (pattern_of w) e
bad_literal o w e = some_none _ e

-- a word that is no literal of the operator is at fault, where its pattern is bad
pattern_at : (end : ℕ) (ts : List Token) (a : List ℕ) (o : Op) (below : List Frame) (f : Frame)
    (n offset raw : ℕ) (w : List ℕ) → steps (start nesting) ts ≡ Some (at (after_op a o) below f n)
    → literal_of o w ≡ None → IsFaultOf end ts (here_of offset raw (word w))
    (offset_at end (here_of offset raw (word w)) (word w) (literal_fault o w))
pattern_at end ts a o below f n offset raw w e h =
    let k = bad_literal o w h in
    let front = front_by ts (at (after_op a o) below f n) o refl e in
    bad_pattern front.0 o w k.0 front.1 refl k.1
    (ap (offset_at end (here_of offset raw (word w)) (word w)) k.1)

-- a token that is refused is at fault
refused_at : (p : Expected) (below : List Frame) (f : Frame) (n : ℕ) (t : Token) (end : ℕ)
    (ts : List Token) (offset raw : ℕ)
    → steps (start nesting) ts ≡ Some (at p below f n) → step_token (at p below f n) t ≡ None
    → IsFaultOf end ts (here_of offset raw t)
    (offset_at end (here_of offset raw t) t (pattern_fault p t))
refused_at p below f n lone end ts offset raw e h = alone refl refl
refused_at p below f n cut end ts offset raw e h = cut_off refl refl
refused_at operand below f zero opens end ts offset raw e h =
    deep_at end ts (at operand below f zero) _ offset raw opens e h (inl refl) refl
refused_at operand below f (suc n) opens end ts offset raw e h = some_none _ h
refused_at operand below f zero bang end ts offset raw e h =
    deep_at end ts (at operand below f zero) _ offset raw bang e h (inr refl) refl
refused_at operand below f (suc n) bang end ts offset raw e h = some_none _ h
refused_at operand below f n (word w) end ts offset raw e h =
    bad_name w refl (awaits_attr ts below f n e)
    (none_of (name_of w) (λ name. at (after_attr name) below f n) h) refl
refused_at (after_attr a) below f n (op u) end ts offset raw e h = some_none _ h
refused_at (after_op a o) below f n (word w) end ts offset raw e h =
    pattern_at end ts a o below f n offset raw w e
    (none_of (literal_of o w) (λ literal. completed (Compare a o literal) below f n) h)
refused_at after_operand (g ∷ gs) f n closes end ts offset raw e h = some_none _ h
refused_at after_operand below f n ands end ts offset raw e h = some_none _ h
refused_at after_operand below f n ors end ts offset raw e h = some_none _ h
refused_at p below f n t end ts offset raw e h =
    stray_at end ts (at p below f n) offset raw t e refl (λ c. cc)

-- a token that the machine refuses is at fault, at the offset that the reading says
pub refused_fault : (end : ℕ) (ts : List Token) (s : MachineState) (here : Placed)
    → steps (start nesting) ts ≡ Some s → step_token s here.token ≡ None
    → IsFaultOf end ts here (fault_offset end s.expected here)
refused_fault end ts s here e h =
    refused_at s.expected s.below s.top s.room here.token end ts here.offset here.raw_offset e h
