-- What a parameter is made of.
use Rattle.std.proofs.Common.{◌≡◌, ◌+◌, ◌≤◌, ◌==◌, ◌&&◌, ℕ, ℤ, pos, negsuc, Bool, true, false, List, [], ◌∷◌, length, Option, None, Some, refl, sym, ap, subst, arith}
use Rattle.std.specs.Prelude.{if◌then◌else◌, nat_le, option_map}
use Rattle.std.proofs.lemmas.Bool.{and_parts, eqb-true}
use Rattle.lq_value.specs.Number.{decimal_number}
use Rattle.lq_value.specs.declared.op.Op.{Op}
use Rattle.lq_predicate_formula.specs.Tokens.{Placed, Token, opens, closes, bang, ands, ors, op, word, lone, cut}
use Rattle.lq_embed.specs.declared.parameters.Parameter.{Parameter}
use Rattle.lq_embed.specs.Parameters.{number_named, number_written, parameter_at, parameter_named, value_number}

-- a number of a value is 1 or more
positive : (z : Option ℤ) (n : ℕ) → value_number z ≡ Some n → 1 ≤ n
positive None n is = absurd (let no : ⊥ = cc in no)
positive (Some (negsuc m)) n is = absurd (let no : ⊥ = cc in no)
positive (Some (pos m)) n is = by (nat_le 1 m && nat_le m 256) refl is
  where
    by : (t : Bool) → (nat_le 1 m && nat_le m 256) ≡ t → (if t then Some m else None) ≡ Some n
        → 1 ≤ n
    by true within same =
        let one : nat_le 1 m ≡ true = (and_parts (nat_le 1 m) (nat_le m 256) within).0 in
        let le : 1 ≤ m = grind (arith, one) in
        let e : m ≡ n = cc in
        omega (arith, le, e)
    by false within same = absurd (let no : ⊥ = cc in no)

-- so is one that is written
written_positive : (bs : List ℕ) (n : ℕ) → number_written bs ≡ Some n → 1 ≤ n
written_positive [] n is = absurd (let no : ⊥ = cc in no)
written_positive (b ∷ bs) n is = by (b == 48) is
  where
    by : (t : Bool)
        → (if t then None else value_number (decimal_number (b ∷ bs))) ≡ Some n → 1 ≤ n
    by true same = absurd (let no : ⊥ = cc in no)
    by false same = positive (decimal_number (b ∷ bs)) n same

-- and one that is named
named_positive : (raw : List ℕ) (n : ℕ) → number_named raw ≡ Some n → 1 ≤ n
named_positive [] n is = absurd (let no : ⊥ = cc in no)
named_positive (b ∷ bs) n is = by (b == 36) is
  where
    by : (t : Bool) → (if t then number_written bs else None) ≡ Some n → 1 ≤ n
    by true same = written_positive bs n same
    by false same = absurd (let no : ⊥ = cc in no)

-- a parameter, as what it is made of
pub record IsParameter (before : Option Op) (t : Placed) (p : Parameter) : Type 0 where
  pub before_is : before ≡ Some p.op
  pub unmarked : t.raw_offset ≡ t.offset
  pub raw : List ℕ
  pub is_word : t.token ≡ word raw
  pub offset : p.offset ≡ t.offset
  pub end : p.end ≡ t.offset + length raw
  pub number : 1 ≤ p.number

-- the parameter that a number makes
made_by : (o : Op) (offset : ℕ) (raw : List ℕ) (p : Parameter) (m : Option ℕ)
    → number_named raw ≡ m → option_map (λ number.
    record { offset = offset; end = offset + length raw; number = number; op = o }) m ≡ Some p
    → (p.op ≡ o) × (p.offset ≡ offset) × (p.end ≡ offset + length raw) × (1 ≤ p.number)
made_by o offset raw p None named is = absurd (let no : ⊥ = cc in no)
made_by o offset raw p (Some n) named is =
    let eq : record { offset = offset; end = offset + length raw; number = n; op = o } ≡ p = cc in (
      sym (ap (λ (q : Parameter). q.op) eq),
      sym (ap (λ (q : Parameter). q.offset) eq),
      sym (ap (λ (q : Parameter). q.end) eq),
      subst (λ (q : Parameter). 1 ≤ q.number) eq (named_positive raw n named),
    )

-- a token that a parameter is made of is a word
made_of : (o : Op) (offset : ℕ) (t : Token) (p : Parameter) → parameter_named o offset t ≡ Some p
    → (raw : List ℕ) × (t ≡ word raw) × (p.op ≡ o) × (p.offset ≡ offset)
    × (p.end ≡ offset + length raw) × (1 ≤ p.number)
made_of o offset (word raw) p is =
    let m = made_by o offset raw p (number_named raw) refl is in
    (raw, refl, m.0, m.1, m.2, m.3)
made_of o offset opens p is = absurd (let no : ⊥ = cc in no)
made_of o offset closes p is = absurd (let no : ⊥ = cc in no)
made_of o offset bang p is = absurd (let no : ⊥ = cc in no)
made_of o offset ands p is = absurd (let no : ⊥ = cc in no)
made_of o offset ors p is = absurd (let no : ⊥ = cc in no)
made_of o offset (op x) p is = absurd (let no : ⊥ = cc in no)
made_of o offset lone p is = absurd (let no : ⊥ = cc in no)
made_of o offset cut p is = absurd (let no : ⊥ = cc in no)

-- what parameter_at finds is one
pub is_parameter : (before : Option Op) (t : Placed) (p : Parameter)
    → parameter_at before t ≡ Some p → IsParameter before t p
is_parameter None t p is = absurd (let no : ⊥ = cc in no)
is_parameter (Some o) t p is = by (t.raw_offset == t.offset) refl is
  where
    by : (b : Bool) → (t.raw_offset == t.offset) ≡ b
        → (if b then parameter_named o t.offset t.token else None) ≡ Some p
        → IsParameter (Some o) t p
    by false same none = absurd (let no : ⊥ = cc in no)
    by true same some =
        let m = made_of o t.offset t.token p some in record {
          before_is = ap (λ x. Some x) (sym m.2);
          unmarked = eqb-true t.raw_offset t.offset same;
          raw = m.0;
          is_word = m.1;
          offset = m.3;
          end = m.4;
          number = m.5;
        }
