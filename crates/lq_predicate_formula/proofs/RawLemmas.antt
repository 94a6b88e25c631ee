-- One character more, and one byte more, of a text whose `\` are taken off.
use Rattle.std.proofs.Common.{◌≡◌, length, ℕ, Bool, true, false, List, [], ◌∷◌, ◌++◌, refl, sym, ap, ◌∙◌, arith, append_assoc}
use Rattle.std.proofs.lemmas.Bool.{ne_eqb}
use Rattle.std.proofs.lemmas.Str.{encode_ascii}
use Rattle.std.proofs.Math.Dec.{lit<}
use Rattle.std.proofs.Math.Utf8.{encode}
use Rattle.std.specs.Prelude.{if◌then◌else◌, is_some, Some, None}
use Rattle.lq_value.specs.declared.refusal.Refusal.TheVariants.{BadName}
use Rattle.lq_value.specs.Name.{is_attr_name}
use Rattle.lq_predicate_formula.specs.Literals.{name_refusal, unescaped}
use Rattle.lq_predicate_formula.proofs.QuotingLemmas.{AreHigh, first_not, opened}
use Rattle.std.proofs.lemmas.List.{nil_from_length}

-- a byte that is no `\` stays, and what follows is unescaped
one_plain : (b : ℕ) (bs : List ℕ) → (b ≡ 92 → ⊥) → unescaped false (b ∷ bs) ≡ b ∷ unescaped false bs
one_plain b bs h = rw (ne_eqb b 92 h)

-- bytes of 128 or more stay, and what follows is unescaped
all_plain : (bs rest : List ℕ) → AreHigh bs
    → unescaped false (bs ++ rest) ≡ bs ++ unescaped false rest
all_plain [] rest h = refl
all_plain (b ∷ bs) rest h =
    rw (one_plain b (bs ++ rest) (λ e. omega (arith, h.0, e)), all_plain bs rest h.1)

-- a character after `\` stays whole
pub escaped_char : (c : ℕ) (rest : List ℕ)
    → unescaped true (encode c ++ rest) ≡ encode c ++ unescaped false rest
escaped_char c rest =
    let o = opened c in
    rw (o.split, all_plain o.tail rest o.high)

-- a character that is no `\` stays whole
pub plain_char : (c : ℕ) (rest : List ℕ) → (c ≡ 92 → ⊥)
    → unescaped false (encode c ++ rest) ≡ encode c ++ unescaped false rest
plain_char c rest h =
    let o = opened c in
    let other = first_not 92 c o.first (lit< tt) o.first_is h in
    rw (o.split, one_plain o.first (o.tail ++ rest) other, all_plain o.tail rest o.high)

-- the character `\` is taken off and escapes the next
pub backslash : (c : ℕ) (rest : List ℕ) → c ≡ 92
    → unescaped false (encode c ++ rest) ≡ unescaped true rest
backslash c rest h = ap (λ d. unescaped false (encode d ++ rest)) h
    ∙ ap (λ l. unescaped false (l ++ rest)) (encode_ascii 92 (lit< tt))

-- the characters so far, and one more
pub one_more : (done bs whole : List ℕ) (c : ℕ) (all tail : List ℕ)
    → done ++ all ≡ whole → bs ≡ done ++ encode c → all ≡ encode c ++ tail → bs ++ tail ≡ whole
one_more done bs whole c all tail e f g =
    ap (λ l. l ++ tail) f ∙ append_assoc done (encode c) tail ∙ ap (λ l. done ++ l) (sym g) ∙ e

-- no text stays none, behind a `\` too
pub unescaped_none : (b : Bool) (bs : List ℕ) → length bs ≡ 0 → unescaped b bs ≡ []
unescaped_none true bs h = ap (unescaped true) (nil_from_length bs h)
unescaped_none false bs h = ap (unescaped false) (nil_from_length bs h)

-- a test that gives a name or None refuses a bad name just where it gives None
refusal_by : (b : Bool) (u : List ℕ) → (if b then None else Some BadName)
    ≡ (if is_some (if b then Some u else None) then None else Some BadName)
refusal_by true u = refl
refusal_by false u = refl

-- why the unescaped text is refused as a name
pub name_refused : (raw name : List ℕ) → name ≡ unescaped false raw
    → (if is_attr_name name then None else Some BadName) ≡ name_refusal raw
name_refused raw name e = ap (λ n. if is_attr_name n then None else Some BadName) e
    ∙ refusal_by (is_attr_name (unescaped false raw)) (unescaped false raw)
