-- Where the reading of some tokens stops: behind them all, or at a fault, which has one offset.
use Rattle.std.proofs.Common.{◌≡◌, ◌≤◌, ◌<◌, ◌+◌, ◌⊎◌, ℕ, List, [], ◌∷◌, ◌++◌, Option, Some, None, refl, sym, ap, ◌∙◌, subst, arith, inl, inr, append_assoc, append-nil}
use Rattle.std.specs.Prelude.{Err, option_map}
use Rattle.std.proofs.lemmas.Bool.{cases_lt, le-leb, lt-leb}
use Rattle.std.proofs.lemmas.List.{map-append}
use Rattle.std.proofs.lemmas.Option.{none-some}
use Rattle.lq_value.specs.declared.op.Op.{Op}
use Rattle.lq_value.specs.declared.op.Op.TheVariants.{Eq}
use Rattle.lq_predicate_formula.specs.Tokens.{Token, word, Placed, bare, op, cut}
use Rattle.lq_predicate_formula.specs.Grammar.{nesting}
use Rattle.lq_predicate_formula.specs.Machine.{MachineState, start, step_token, steps, Expected, after_op, completed}
use Rattle.lq_predicate_formula.specs.Faults.{AreFine, IsFaultOf, most_comparisons, AwaitsAttr, CanStand, stray, cut_off, alone, too_deep, bad_name, one_more, bad_pattern, kind_of}
use Rattle.lq_predicate_formula.specs.MachineReading.{fault_offset, pattern_fault, offset_at, read_tokens, word_count}
use Rattle.lq_predicate_formula.specs.Query.{Compare}
use Rattle.lq_predicate_formula.proofs.MoveLemmas.{steps_push, at, last_move, op_place}
use Rattle.lq_predicate_formula.proofs.RefusedLemmas.{refused_fault}
use Rattle.lq_predicate_formula.proofs.TakenLemmas.{full, fine}
use Rattle.lq_predicate_formula.proofs.WordLemmas.{words_append, words}
use Rattle.lq_predicate_formula.proofs.StopLemmas.{can_stand, empty_literal}
use Rattle.lq_predicate_formula.proofs.OutlineLemmas.{outline_of, outline_steps, stands_outline}

-- the most words that are read
abbrev pub most_words : ℕ
most_words = most_comparisons + most_comparisons

-- what was read up to a state
pub record Seen (seen : List Placed) (s : MachineState) (count : ℕ) : Type 0 where
  pub goes : steps (start nesting) (bare seen) ≡ Some s
  pub counted : words (bare seen) ≡ count
  pub few : count ≤ most_words

-- no token that was passed over is at fault
pub seen_fine : (end : ℕ) (seen : List Placed) (s : MachineState) (count : ℕ) → Seen seen s count
    → AreFine end seen
seen_fine end seen s count h =
    let k = h.counted in
    let l = h.few in
    fine end seen s h.goes (omega arith)

-- a token that is one too many is a word, and the most words stand before it
is_word : (t : Token) (n : ℕ) → n ≤ most_words → most_words < n + word_count t
    → (raw : List ℕ) × (t ≡ word raw) × (n ≡ most_words)
is_word (word w) n h k = (w, refl, omega arith)
is_word t n h k = absurd (omega arith)

-- the next token is at fault, where the reading is, or it is passed over
abbrev pub Next : ℕ → List Placed → Placed → MachineState → ℕ → Type 0
Next end seen t s count =
    ((p : ℕ) × IsFaultOf end (bare seen) t p
    × ((rest : List Placed) → read_tokens end s count (t ∷ rest) ≡ Err p))
    ⊎ ((s' : MachineState) × Seen (seen ++ t ∷ []) s' (count + word_count t.token)
    × ((rest : List Placed) → read_tokens end s count (t ∷ rest)
    ≡ read_tokens end s' (count + word_count t.token) rest))

-- it is refused, or one word too many, or taken
next_by : (end : ℕ) (seen : List Placed) (t : Placed) (s : MachineState) (count : ℕ)
    → Seen seen s count → (o : Option MachineState) → step_token s t.token ≡ o
    → (most_words < count + word_count t.token) ⊎ (count + word_count t.token ≤ most_words)
    → Next end seen t s count
unfolding read_tokens
next_by end seen t s count h None e few =
    inl (fault_offset end s.expected t, refused_fault end (bare seen) s t h.goes e, λ rest. rw e)
next_by end seen t s count h (Some s') e (inl over) =
    let w = is_word t.token count h.few over in
    let fault = full end (bare seen) s s' t w.0 h.goes (h.counted ∙ w.2) w.1 e in
    inl (t.offset, fault, λ rest. rw (e, lt-leb _ _ over))
next_by end seen t s count h (Some s') e (inr few) =
    let same = map-append (λ x. x.token) seen (t ∷ []) in
    let k = h.counted in
    let seen_more : Seen (seen ++ t ∷ []) s' (count + word_count t.token) = record {
      goes = ap (steps (start nesting)) same
          ∙ steps_push (bare seen) t.token (start nesting) s h.goes ∙ e;
      counted = ap words same ∙ omega (arith, words_append (bare seen) (t.token ∷ []));
      few = few;
    } in
    inr (s', seen_more, λ rest. rw (e, le-leb _ _ few))

-- the next token is at fault or passed over
pub next : (end : ℕ) (seen : List Placed) (t : Placed) (s : MachineState) (count : ℕ)
    → Seen seen s count → Next end seen t s count
next end seen t s count h = next_by end seen t s count h (step_token s t.token) refl
    (cases_lt most_words (count + word_count t.token))

-- the state behind tokens none of which is at fault, from where the reading goes on
pub record Passes (end : ℕ) (ts : List Placed) : Type 0 where
  pub s : MachineState
  pub count : ℕ
  pub seen : Seen ts s count
  pub goes : (rest : List Placed)
      → read_tokens end (start nesting) 0 (ts ++ rest) ≡ read_tokens end s count rest

-- where the reading of all these tokens stops
pub data Stops (end : ℕ) (all : List Placed) : Type 0 where
  at_one : (before : List Placed) (here : Placed) (after : List Placed) (offset : ℕ)
      → all ≡ before ++ here ∷ after → AreFine end before → IsFaultOf end (bare before) here offset
      → read_tokens end (start nesting) 0 all ≡ Err offset → Stops end all
  behind_all : Passes end all → Stops end all

-- the reading goes on behind tokens that were passed over, up to where it stops
stops_from : (end : ℕ) (all ts seen : List Placed) → all ≡ seen ++ ts → Passes end seen
    → Stops end all
stops_from end all [] seen a p = subst (Stops end) (sym (a ∙ append-nil seen)) (behind_all p)
stops_from end all (t ∷ ts) seen a p = elim (next end seen t p.s p.count p.seen) [
  | inl f ↦ at_one seen t ts f.0 a (seen_fine end seen p.s p.count p.seen) f.1
      (ap (read_tokens end (start nesting) 0) a ∙ p.goes (t ∷ ts) ∙ f.2 ts)
  | inr n ↦ stops_from end all ts (seen ++ t ∷ []) (a ∙ sym (append_assoc seen (t ∷ []) ts))
      (record {
        s = n.0;
        count = p.count + word_count t.token;
        seen = n.1;
        goes = λ rest. ap (read_tokens end (start nesting) 0) (append_assoc seen (t ∷ []) rest)
            ∙ p.goes (t ∷ rest) ∙ n.2 rest;
      })
]

-- the reading of some tokens stops at one of them, or behind them all
pub stops : (end : ℕ) (all : List Placed) → Stops end all
stops end all = stops_from end all all [] refl (record {
  s = start nesting;
  count = 0;
  seen = record { goes = refl; counted = refl; few = omega arith };
  goes = λ rest. refl;
})

-- the fault's offset is the token's own, but for a cut text and for a bad literal
plain_offset : (end : ℕ) (q : Expected) (t : Token) (here : Placed)
    → (t ≡ cut → ⊥) → ((a : List ℕ) (o : Op) (w : List ℕ) → q ≡ after_op a o → t ≡ word w → ⊥)
    → offset_at end here t (pattern_fault q t) ≡ here.offset
plain_offset end q cut here h k = absurd (h refl)
plain_offset end (after_op a o) (word w) here h k = absurd (k a o w refl refl)
plain_offset end q t here h k = refl

-- a word is no cut token
no_cut_word : (w : List ℕ) → word w ≡ cut → ⊥
no_cut_word w e = cc

module _ (ts : List Token) (s : MachineState) (e : steps (start nesting) ts ≡ Some s) where
  -- an operator's literal may be any word, as far as the grammar goes
  word_stands : (t : Token) (a : List ℕ) (o : Op) (w : List ℕ) → s.expected ≡ after_op a o
      → t ≡ word w → CanStand (ts ++ t ∷ [])
  word_stands t a o w h k =
      let empty = empty_literal o in
      let goes = steps_push ts (word []) (start nesting) (at (after_op a o) s.below s.top s.room)
      (subst (λ q. steps (start nesting) ts ≡ Some (at q s.below s.top s.room)) h e)
      ∙ ap (option_map (λ literal. completed (Compare a o literal) s.below s.top s.room)) empty.1 in
      subst (λ u. CanStand (ts ++ u ∷ [])) (sym k)
      (can_stand (ts ++ word w ∷ []) (ts ++ word [] ∷ [])
      (completed (Compare a o empty.0) s.below s.top s.room) goes
      (map-append kind_of ts (word [] ∷ []) ∙ sym (map-append kind_of ts (word w ∷ []))))

  -- where the name of an attribute is awaited, no literal is
  not_literal : (a : List ℕ) (o : Op) → AwaitsAttr ts → s.expected ≡ after_op a o → ⊥
  not_literal a o h k =
      let d = stands_outline nesting ts (word [] ∷ op Eq ∷ []) s e h in
      none-some d.0 (subst (λ q. outline_steps (outline_of (at q s.below s.top s.room))
      (word [] ∷ op Eq ∷ []) ≡ Some d.0) k d.1)

  -- the offset of a fault is where the machine has it
  pub fault_is : (end : ℕ) (here : Placed) (p : ℕ) → IsFaultOf end ts here p
      → fault_offset end s.expected here ≡ p
  fault_is end here p (stray h k is) = plain_offset end s.expected here.token here k
      (λ a o w x y. h (word_stands here.token a o w x y)) ∙ sym is
  fault_is end here p (cut_off h is) = rw h (sym is)
  fault_is end here p (alone h is) = rw h (sym is)
  fault_is end here p (too_deep (inl h) d is) = rw h (sym is)
  fault_is end here p (too_deep (inr h) d is) = rw h (sym is)
  fault_is end here p (bad_name w h a n is) = plain_offset end s.expected here.token here
      (λ x. no_cut_word w (sym h ∙ x)) (λ b o v x y. not_literal b o a x) ∙ sym is
  fault_is end here p (one_more w h a m is) = plain_offset end s.expected here.token here
      (λ x. no_cut_word w (sym h ∙ x)) (λ b o v x y. not_literal b o a x) ∙ sym is
  fault_is end here p (bad_pattern front o w k split h i is) =
      let d = op_place (last_move front (op o) s
      (subst (λ l. steps (start nesting) l ≡ Some s) split e)).1 in
      ap (λ q. offset_at end here here.token (pattern_fault q here.token)) d.1
      ∙ ap (λ t. offset_at end here t (pattern_fault (after_op d.0 o) t)) h
      ∙ ap (offset_at end here (word w)) i ∙ sym is
