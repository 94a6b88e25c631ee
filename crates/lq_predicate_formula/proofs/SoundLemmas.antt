-- What the machine reads, the grammar reads, as the same query.
use Rattle.std.proofs.Common.{◌≡◌, ℕ, zero, suc, ◌+◌, List, [], ◌∷◌, ◌++◌, Some, refl, sym, ap, ◌∙◌, subst, arith, append_assoc, append-nil, add-zero, inl, inr}
use Rattle.std.proofs.lemmas.Option.{none-some, same_Some}
use Rattle.lq_value.specs.declared.op.Op.{Op}
use Rattle.lq_predicate_formula.specs.Tokens.{Token, opens, closes, bang, ands, ors, op, word}
use Rattle.lq_value.specs.declared.literal.Literal.{Literal}
use Rattle.lq_predicate_formula.specs.Literals.{name_of, literal_of}
use Rattle.lq_predicate_formula.specs.Query.{Query, Compare, Not, both_of, either_of}
use Rattle.lq_predicate_formula.specs.Grammar.{MoreParts, IsAnd, IsNot, IsFormula}
use Rattle.lq_predicate_formula.specs.Machine.{Frame, Expected, operand, after_attr, after_op, after_operand, MachineState, empty_frame, start, negate, said_by, step_token, run_tokens, whole_at}
use Rattle.lq_predicate_formula.proofs.MoveLemmas.{led, move, Move, enter, deny, attribute, operator, complete, one_and, one_or, leave}

-- The tokens end a frame behind an operand: more parts of its
-- and, more parts of its or, and then what K takes.
record Rest (n : ℕ) (os xs : List Query) (K : Query → List Token → Type 0)
    (ts : List Token) : Type 0 where
  pub more : List Query
  pub ys : List Query
  pub a : List Token
  pub b : List Token
  pub c : List Token
  pub split : ts ≡ a ++ (b ++ c)
  pub more_ands : MoreParts (IsNot n) ands a more
  pub more_ors : MoreParts (IsAnd (IsNot n)) ors b ys
  pub then : K (either_of (os ++ (both_of (xs ++ more) ∷ ys))) c

-- after a frame's query the text ends, or a `)` ends the frame and becomes a part of the one below
abbrev Closing : List Frame → ℕ → Query → Query → List Token → Type 0
Closing [] n q p c = (c ≡ []) × (p ≡ q)
Closing (g ∷ gs) n q p c = (d : List Token) × (c ≡ closes ∷ d)
    × Rest (suc n + g.bangs) g.or_parts (g.and_parts ++ negate g.bangs p ∷ [])
    (λ r e. Closing gs (suc n + g.bangs) q r e) d

-- the tokens end a formula behind an operand
abbrev After : List Frame → List Query → List Query → ℕ → Query → List Token → Type 0
After below os xs n q ts = Rest n os xs (λ r e. Closing below n q r e) ts

-- the tokens end a formula from an operand on
record Awaits (below : List Frame) (f : Frame) (n : ℕ) (q : Query) (ts : List Token) : Type 0 where
  pub a : List Token
  pub b : List Token
  pub p : Query
  pub split : ts ≡ a ++ b
  pub reads : IsNot n a p
  pub after : After below f.or_parts (f.and_parts ++ negate f.bangs p ∷ []) (n + f.bangs) q b

-- the tokens end a formula from a literal on
record AwaitsLiteral (below : List Frame) (f : Frame) (n : ℕ) (attr : List ℕ) (o : Op)
    (q : Query) (ts : List Token) : Type 0 where
  pub l : List ℕ
  pub literal : Literal
  pub b : List Token
  pub split : ts ≡ word l ∷ b
  pub is : literal_of o l ≡ Some literal
  pub after : After below f.or_parts (f.and_parts ++ negate f.bangs (Compare attr o literal) ∷ [])
      (n + f.bangs) q b

-- the tokens end a formula from a place on
abbrev EndsAt : Expected → List Frame → Frame → ℕ → Query → List Token → Type 0
EndsAt operand below f n q ts = Awaits below f n q ts
EndsAt (after_attr a) below f n q ts =
    (o : Op) × (us : List Token) × (ts ≡ op o ∷ us) × AwaitsLiteral below f n a o q us
EndsAt (after_op a o) below f n q ts = AwaitsLiteral below f n a o q ts
EndsAt after_operand below f n q ts = After below f.or_parts f.and_parts n q ts

-- the tokens end a formula from a state on
abbrev Ends : MachineState → Query → List Token → Type 0
Ends x q ts = EndsAt x.expected x.below x.top x.room q ts

-- where no `!` waits, no room is given back
plain : (below : List Frame) (os xs : List Query) (n : ℕ) (q : Query) (ts : List Token)
    → After below os xs (n + 0) q ts → After below os xs n q ts
plain below os xs n q ts h = subst (λ m. After below os xs m q ts) (add-zero n) h

-- a frame ends where what follows takes its or as a query
rest_end : (n : ℕ) (os xs : List Query) (K : Query → List Token → Type 0) (c : List Token)
    → K (either_of (os ++ (both_of xs ∷ []))) c → Rest n os xs K c
rest_end n os xs K c k = record {
  more = [];
  ys = [];
  a = [];
  b = [];
  c = c;
  split = refl;
  more_ands = refl;
  more_ors = refl;
  then = subst (λ l. K (either_of (os ++ (both_of l ∷ []))) c) (sym (append-nil xs)) k;
}

-- from the first operand of a frame on: the formula that the frame is, and what follows it
whole : (below : List Frame) (n : ℕ) (q : Query) (ts : List Token) → Awaits below empty_frame n q ts
    → (a : List Token) × (p : Query) × (c : List Token) × (ts ≡ a ++ c) × IsFormula n a p
    × Closing below n q p c
whole below n q ts h =
    let r = plain below [] (h.p ∷ []) n q h.b h.after in (
      (h.a ++ r.a) ++ r.b,
      either_of (both_of (h.p ∷ r.more) ∷ r.ys),
      r.c,
      h.split ∙ ap (λ l. h.a ++ l) r.split ∙ sym (append_assoc h.a r.a (r.b ++ r.c))
          ∙ sym (append_assoc (h.a ++ r.a) r.b r.c),
      (
        both_of (h.p ∷ r.more),
        r.ys,
        refl,
        (
          h.a ++ r.a,
          r.b,
          refl,
          (h.p, r.more, refl, (h.a, r.a, refl, h.reads, r.more_ands)),
          r.more_ors,
        ),
      ),
      r.then,
    )

-- a name, an operator and a literal are read as a comparison
pub comparison_reads : (n : ℕ) (a : List ℕ) (o : Op) (l name : List ℕ) (literal : Literal)
    → name_of a ≡ Some name → literal_of o l ≡ Some literal
    → IsNot n (word a ∷ op o ∷ word l ∷ []) (Compare name o literal)
comparison_reads zero a o l name literal h k = (a, o, l, name, literal, refl, h, k, refl)
comparison_reads (suc n) a o l name literal h k = inl (a, o, l, name, literal, refl, h, k, refl)

-- tokens that end a formula from where a move leads end it from before the move, with its token
ends_from : (q : Query) (ts : List Token) {x s : MachineState} {t : Token} → Move x t s
    → Ends s q ts → Ends x q (t ∷ ts)
ends_from q ts (enter below f n) h =
    let w = whole (f ∷ below) n q ts h in
    record {
      a = opens ∷ (w.0 ++ closes ∷ []);
      b = w.5.0;
      p = w.1;
      split = ap (λ l. opens ∷ l) (w.3 ∙ ap (λ l. w.0 ++ l) w.5.1
          ∙ sym (append_assoc w.0 (closes ∷ []) w.5.0));
      reads = inr (inl (w.0, refl, w.4));
      after = w.5.2;
    }
ends_from q ts (deny below f n) h =
    let same : n + suc f.bangs ≡ suc n + f.bangs = omega arith in
    record {
      a = bang ∷ h.a;
      b = h.b;
      p = Not h.p;
      split = ap (λ l. bang ∷ l) h.split;
      reads = inr (inr (h.a, h.p, refl, refl, h.reads));
      after =
          subst (λ m. After below f.or_parts (f.and_parts ++ negate f.bangs (Not h.p) ∷ []) m q h.b)
          same h.after;
    }
ends_from q ts (attribute below f n raw attr e) h = record {
  a = word raw ∷ op h.0 ∷ word h.3.l ∷ [];
  b = h.3.b;
  p = Compare attr h.0 h.3.literal;
  split = ap (λ l. word raw ∷ l) (h.2 ∙ ap (λ l. op h.0 ∷ l) h.3.split);
  reads = comparison_reads n raw h.0 h.3.l attr h.3.literal e h.3.is;
  after = h.3.after;
}
ends_from q ts (operator below f n a o) h = (o, ts, refl, h)
ends_from q ts (complete below f n a o raw literal e) h =
    record { l = raw; literal = literal; b = ts; split = refl; is = e; after = h }
ends_from q ts (one_and below f n) h =
    let r = plain below f.or_parts (f.and_parts ++ h.p ∷ []) n q h.b h.after in
    record {
      more = h.p ∷ r.more;
      ys = r.ys;
      a = ands ∷ (h.a ++ r.a);
      b = r.b;
      c = r.c;
      split = ap (λ l. ands ∷ l) (h.split ∙ ap (λ l. h.a ++ l) r.split
          ∙ sym (append_assoc h.a r.a (r.b ++ r.c)));
      more_ands = (h.a, r.a, refl, h.reads, r.more_ands);
      more_ors = r.more_ors;
      then = subst (λ l. Closing below n q (either_of (f.or_parts ++ (both_of l ∷ r.ys))) r.c)
          (append_assoc f.and_parts (h.p ∷ []) r.more) r.then;
    }
ends_from q ts (one_or below f n) h =
    let os = f.or_parts in
    let xs = f.and_parts in
    let r = plain below (os ++ both_of xs ∷ []) (h.p ∷ []) n q h.b h.after in
    let ys = both_of (h.p ∷ r.more) ∷ r.ys in
    record {
      more = [];
      ys = ys;
      a = [];
      b = ors ∷ ((h.a ++ r.a) ++ r.b);
      c = r.c;
      split = ap (λ l. ors ∷ l) (h.split ∙ ap (λ l. h.a ++ l) r.split
          ∙ sym (append_assoc h.a r.a (r.b ++ r.c)) ∙ sym (append_assoc (h.a ++ r.a) r.b r.c));
      more_ands = refl;
      more_ors = (
        h.a ++ r.a,
        r.b,
        refl,
        (h.p, r.more, refl, (h.a, r.a, refl, h.reads, r.more_ands)),
        r.more_ors,
      );
      then = subst (λ l. Closing below n q (either_of (os ++ (both_of l ∷ ys))) r.c)
          (sym (append-nil xs)) (subst (λ l. Closing below n q (either_of l) r.c)
          (append_assoc os (both_of xs ∷ []) ys) r.then);
    }
ends_from q ts (leave g below f n) h =
    rest_end n f.or_parts f.and_parts (λ r e. Closing (g ∷ below) n q r e) (closes ∷ ts)
    (ts, refl, h)

-- no tokens end a formula where it is whole
ended : (p : Expected) (below : List Frame) (f : Frame) (n : ℕ) (q : Query)
    → whole_at p below f ≡ Some q → EndsAt p below f n q []
ended after_operand [] f n q e = rest_end n f.or_parts f.and_parts (λ r c. Closing [] n q r c) []
    (refl, same_Some (said_by f) q e)
ended p below f n q e = absurd (none-some q e)

-- the tokens that the machine runs over to a query end a formula, as the grammar reads it
sound : (ts : List Token) (x : MachineState) (q : Query) → run_tokens x ts ≡ Some q → Ends x q ts
sound [] x q e = ended x.expected x.below x.top x.room q e
sound (t ∷ ts) x q e =
    let h = led (λ y. run_tokens y ts) (step_token x t) q e in
    ends_from q ts (move x t h.0 h.1) (sound ts h.0 q h.2)

-- what the machine reads is a formula
pub run_reads : (n : ℕ) (ts : List Token) (q : Query) → run_tokens (start n) ts ≡ Some q
    → IsFormula n ts q
run_reads n ts q e =
    let w = whole [] n q ts (sound ts (start n) q e) in
    let all : ts ≡ w.0 = w.3 ∙ ap (λ c. w.0 ++ c) w.5.0 ∙ append-nil w.0 in
    subst (λ l. IsFormula n l q) (sym all) (subst (IsFormula n w.0) w.5.1 w.4)
