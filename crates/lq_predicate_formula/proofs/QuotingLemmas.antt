-- The bytes of an encoded character; what was quoted reads back, and ends at its mark.
use Rattle.std.proofs.Common.{◌≡◌, ◌≤◌, ◌<◌, ◌⊎◌, ◌+◌, ◌/◌, ◌%◌, ℕ, Bool, true, false, cond, List, [], ◌∷◌, refl, inl, inr, ◌∙◌, sym, arith, ap, ◌++◌, subst}
use Rattle.std.proofs.Math.Dec.{ltb, lit<}
use Rattle.std.proofs.Math.Utf8.{encode}
use Rattle.std.specs.Prelude.{◌==◌, ◌||◌}
use Rattle.std.specs.Str.{encode_utf8_all}
use Rattle.std.proofs.lemmas.Bool.{cond_both, ne_eqb, or_parts}
use Rattle.std.proofs.lemmas.Str.{encode_ascii}
use Rattle.lq_predicate_formula.specs.Literals.{unescaped}
use Rattle.lq_predicate_formula.specs.Canonical.{quoted}
use Rattle.lq_predicate_formula.specs.Tokens.{plain, escaped, AreWithout}

-- each byte is 128 or more
abbrev pub AreHigh : List ℕ → Type 0
AreHigh [] = Unit {0}
AreHigh (b ∷ bs) = (128 ≤ b) × AreHigh bs

-- a first byte, which is the character or 128 or more, and bytes of 128 or more after it
pub record BareChar (c : ℕ) (bs : List ℕ) : Type 0 where
  pub first : ℕ
  pub tail : List ℕ
  pub split : bs ≡ first ∷ tail
  pub high : AreHigh tail
  pub first_is : (first ≡ c) ⊎ (128 ≤ first)

-- such bytes
opened_by : (c first : ℕ) (tail : List ℕ) → AreHigh tail → (first ≡ c) ⊎ (128 ≤ first)
    → BareChar c (first ∷ tail)
opened_by c first tail high is =
    record { first = first; tail = tail; split = refl; high = high; first_is = is }

-- each form of an encoded character has such bytes
cases : (x y z : Bool) (c p q r u v w m n o : ℕ)
    → BareChar c (cond x (c ∷ [])
    (cond y ((192 + p) ∷ (128 + q) ∷ [])
    (cond z ((224 + r) ∷ (128 + u) ∷ (128 + v) ∷ [])
    ((240 + w) ∷ (128 + m) ∷ (128 + n) ∷ (128 + o) ∷ []))))
cases true y z c p q r u v w m n o = opened_by c c [] tt (inl refl)
cases false true z c p q r u v w m n o =
    opened_by c (192 + p) ((128 + q) ∷ []) (omega arith) (inr (omega arith))
cases false false true c p q r u v w m n o =
    opened_by c (224 + r) ((128 + u) ∷ (128 + v) ∷ []) (omega arith) (inr (omega arith))
cases false false false c p q r u v w m n o =
    opened_by c (240 + w) ((128 + m) ∷ (128 + n) ∷ (128 + o) ∷ []) (omega arith)
    (inr (omega arith))

-- an encoded character has such bytes
pub opened : (c : ℕ) → BareChar c (encode c)
unfolding encode
opened c = cases (ltb c 128) (ltb c 2048) (ltb c 65536) c (c / 64) (c % 64) (c / 4096) (c / 64 % 64)
    (c % 64) (c / 262144) (c / 4096 % 64) (c / 64 % 64) (c % 64)

-- the first byte of a character other than this ASCII one is not its byte
pub first_not : (m c first : ℕ) → m < 128 → (first ≡ c) ⊎ (128 ≤ first) → (c ≡ m → ⊥) → first ≡ m
    → ⊥
first_not m c first small (inl e) other is = other (sym e ∙ is)
first_not m c first small (inr high) other is = omega (arith, small, high, is)

-- what was quoted reads back
pub quoted_back : (s : List ℕ) → unescaped false (quoted s) ≡ s
quoted_back [] = refl
quoted_back (b ∷ bs) =
    let more = quoted_back bs in
    cond_both (b == 92 || b == 34) _ _ (λ l. unescaped false l ≡ b ∷ bs) (λ e. ap (λ l. b ∷ l) more)
    (λ e. rw ((or_parts (b == 92) (b == 34) e).0, more))

-- a raw text that may stand between two `"`: signs none of which is `"` by itself
abbrev pub Ends : List ℕ → Type 0
Ends raw = AreWithout 34 raw

-- `\` and a byte more
pub ends_escape : (b : ℕ) (bs : List ℕ) → Ends bs → Ends (92 ∷ b ∷ bs)
ends_escape b bs h = (escaped b ∷ h.0, ap (λ l. 92 ∷ b ∷ l) h.1, (tt, h.2))

-- a byte more that is neither `\` nor `"`
pub ends_plain : (b : ℕ) (bs : List ℕ) → (b == 92) ≡ false → (b == 34) ≡ false → Ends bs
    → Ends (b ∷ bs)
ends_plain b bs e f h = (plain b ∷ h.0, ap (λ l. b ∷ l) h.1, ((e, f), h.2))

-- a quoted text may stand between two `"`
pub quoted_ends : (s : List ℕ) → Ends (quoted s)
quoted_ends [] = ([], refl, tt)
quoted_ends (b ∷ bs) =
    let more = quoted_ends bs in
    cond_both (b == 92 || b == 34) _ _ Ends (λ e. ends_escape b (quoted bs) more) (λ e.
    let k = or_parts (b == 92) (b == 34) e in
    ends_plain b (quoted bs) k.0 k.1 more)

-- bytes of 128 or more
high_bytes : (bs cs : List ℕ) → AreHigh bs → Ends cs → Ends (bs ++ cs)
high_bytes [] cs h k = k
high_bytes (b ∷ bs) cs h k =
    ends_plain b (bs ++ cs) (ne_eqb b 92 (λ e. omega (arith, h.0, e)))
    (ne_eqb b 34 (λ e. omega (arith, h.0, e))) (high_bytes bs cs h.1 k)

-- a character that is neither `\` nor `"`
pub ends_clear : (c : ℕ) (cs : List ℕ) → (c ≡ 92 → ⊥) → (c ≡ 34 → ⊥) → Ends (encode_utf8_all cs)
    → Ends (encode_utf8_all (c ∷ cs))
ends_clear c cs h k ends =
    let o = opened c in
    let bs = encode_utf8_all cs in
    subst (λ l. Ends (l ++ bs)) (sym o.split) (ends_plain o.first (o.tail ++ bs)
    (ne_eqb o.first 92 (first_not 92 c o.first (lit< tt) o.first_is h))
    (ne_eqb o.first 34 (first_not 34 c o.first (lit< tt) o.first_is k))
    (high_bytes o.tail bs o.high ends))

-- a `\` and a character
pub ends_escaped : (c : ℕ) (cs : List ℕ) → Ends (encode_utf8_all cs)
    → Ends (encode_utf8_all (92 ∷ c ∷ cs))
ends_escaped c cs ends =
    let o = opened c in
    let bs = encode_utf8_all cs in
    subst Ends (sym (ap (λ l. l ++ (encode c ++ bs)) (encode_ascii 92 (lit< tt))
    ∙ ap (λ l. 92 ∷ (l ++ bs)) o.split))
    (ends_escape o.first (o.tail ++ bs) (high_bytes o.tail bs o.high ends))
