-- The literal of a text reads as just that text.
use Rattle.std.proofs.Common.{◌≡◌, ◌≤◌, ◌<◌, ◌⊎◌, ◌&&◌, ◌||◌, ◌==◌, ℕ, suc, Bool, true, false, List, [], ◌∷◌, ◌++◌, length, get_or, Some, Ok, refl, inl, inr, ◌∙◌, sym, arith, ap, subst, IsUtf8, chars, append-nil}
use Rattle.std.proofs.Math.Dec.{lit<}
use Rattle.std.proofs.Math.Utf8.{encode, low_scalar, scalar, scalars}
use Rattle.std.specs.Str.{encode_utf8_all}
use Rattle.std.proofs.lemmas.Bool.{and_from, and_parts, cases_lt, cond_both, false≢true, ne_eqb, or_from, or_parts}
use Rattle.std.proofs.lemmas.Str.{chars-encodes, encode_ascii, encodes-chars, inside_one, scalars-chars}
use Rattle.lq_value.specs.Compare.{takes_pattern}
use Rattle.lq_value.specs.Laws.{SourcesAreRead}
use Rattle.lq_value.specs.Pattern.{plain_elements}
use Rattle.lq_value.specs.Sign.{signs}
use Rattle.lq_value.specs.Source.{pattern_of}
use Rattle.lq_value.specs.Written.{Writes}
use Rattle.lq_value.specs.declared.literal.Literal.TheVariants.{Plain}
use Rattle.lq_value.specs.declared.op.Op.{Op}
use Rattle.lq_value.specs.declared.op.Op.TheVariants.{Eq, Ne, Lt, Le, Gt, Ge}
use Rattle.lq_predicate_formula.specs.Literals.{literal_of, pattern_literal, unescaped}
use Rattle.lq_predicate_formula.specs.Tokens.{AreWithout, escaped, plain}
use Rattle.lq_embed.specs.Quoting.{escaped_for, has_meaning}
use Rattle.lq_embed.specs.QuotedReading.{TextsAreMeant, text_literal}

-- ---- bytes without a meaning

-- what has none is neither `\` nor `"`
clear : (o : Op) (b : ℕ) → has_meaning o b ≡ false → ((b == 92) ≡ false) × ((b == 34) ≡ false)
clear o b e = or_parts (b == 92) (b == 34)
    (or_parts (b == 92 || b == 34) (takes_pattern o && (b == 42 || b == 63 || b == 91)) e).0

-- what is false beside anything
and_false : (x y : Bool) → y ≡ false → (x && y) ≡ false
and_false true y e = e
and_false false y e = refl

-- no byte of 128 or more has one
high_clear : (o : Op) (b : ℕ) → 128 ≤ b → has_meaning o b ≡ false
high_clear o b high =
    let no : (m : ℕ) → m < 128 → (b == m) ≡ false =
    λ m small. ne_eqb b m (λ e. omega (arith, high, small, e)) in
    or_from (b == 92 || b == 34) _ (or_from (b == 92) (b == 34) (no 92 (lit< tt)) (no 34 (lit< tt)))
    (and_false (takes_pattern o) _ (or_from (b == 42 || b == 63) (b == 91)
    (or_from (b == 42) (b == 63) (no 42 (lit< tt)) (no 63 (lit< tt))) (no 91 (lit< tt))))

-- so what has one is ASCII
meaning_low : (o : Op) (c : ℕ) → has_meaning o c ≡ true → c < 128
meaning_low o c e = by (cases_lt c 128)
  where
    by : (c < 128) ⊎ (128 ≤ c) → c < 128
    by (inl low) = low
    by (inr high) = absurd (false≢true (sym (high_clear o c high) ∙ e))

-- ---- the text between the marks

-- without its `\`s it is the text
plain_back : (o : Op) (s : List ℕ) → unescaped false (escaped_for o s) ≡ s
plain_back o [] = refl
plain_back o (b ∷ bs) =
    let more = plain_back o bs in
    cond_both (has_meaning o b) _ _ (λ l. unescaped false l ≡ b ∷ bs) (λ e. ap (λ l. b ∷ l) more)
    (λ e. rw ((clear o b e).0, more))

-- signs none of which is `"` by itself
abbrev Inside : List ℕ → Type 0
Inside raw = AreWithout 34 raw

-- `\` and a byte more
inside_escape : (b : ℕ) (bs : List ℕ) → Inside bs → Inside (92 ∷ b ∷ bs)
inside_escape b bs h = (escaped b ∷ h.0, ap (λ l. 92 ∷ b ∷ l) h.1, (tt, h.2))

-- a byte more that is neither
inside_plain : (b : ℕ) (bs : List ℕ) → (b == 92) ≡ false → (b == 34) ≡ false → Inside bs
    → Inside (b ∷ bs)
inside_plain b bs e f h = (plain b ∷ h.0, ap (λ l. b ∷ l) h.1, ((e, f), h.2))

-- no mark of it ends it
pub stays_inside : (o : Op) (s : List ℕ) → Inside (escaped_for o s)
stays_inside o [] = ([], refl, tt)
stays_inside o (b ∷ bs) =
    let more = stays_inside o bs in
    cond_both (has_meaning o b) _ _ Inside (λ e. inside_escape b (escaped_for o bs) more) (λ e.
    inside_plain b (escaped_for o bs) (clear o b e).0 (clear o b e).1 more)

-- ---- characters

-- no byte of a character without a meaning has one
byte_clear : (o : Op) (c k : ℕ) → has_meaning o c ≡ false → k < length (encode c)
    → has_meaning o (get_or (encode c) k 0) ≡ false
byte_clear o c k e lt = by (cases_lt (get_or (encode c) k 0) 128)
  where
    by : (get_or (encode c) k 0 < 128) ⊎ (128 ≤ get_or (encode c) k 0)
        → has_meaning o (get_or (encode c) k 0) ≡ false
    by (inl low) = ap (has_meaning o)
        (sym (inside_one c [] (encode c) k (sym (append-nil (encode c))) lt low)) ∙ e
    by (inr high) = high_clear o _ high

-- bytes without a meaning stay
bytes_stay : (o : Op) (bs cs : List ℕ)
    → ((k : ℕ) → k < length bs → has_meaning o (get_or bs k 0) ≡ false)
    → escaped_for o (bs ++ cs) ≡ bs ++ escaped_for o cs
bytes_stay o [] cs h = refl
bytes_stay o (b ∷ bs) cs h = rw (h 0 (omega arith))
    (ap (λ l. b ∷ l) (bytes_stay o bs cs (λ k lt. h (suc k) (omega (arith, lt)))))

-- a character without a meaning stays
clear_stays : (o : Op) (c : ℕ) (bs : List ℕ) → has_meaning o c ≡ false
    → escaped_for o (encode c ++ bs) ≡ encode c ++ escaped_for o bs
clear_stays o c bs e = bytes_stay o (encode c) bs (λ k lt. byte_clear o c k e lt)

-- one with a meaning has a `\` before it
meaning_escaped : (o : Op) (c : ℕ) (bs : List ℕ) → has_meaning o c ≡ true
    → escaped_for o (encode c ++ bs) ≡ 92 ∷ (encode c ++ escaped_for o bs)
meaning_escaped o c bs e =
    subst (λ l. escaped_for o (l ++ bs) ≡ 92 ∷ (l ++ escaped_for o bs))
    (sym (encode_ascii c (meaning_low o c e))) (rw e refl)

-- the bytes are escaped as the characters are
chars_escaped : (o : Op) (cs : List ℕ)
    → escaped_for o (encode_utf8_all cs) ≡ encode_utf8_all (escaped_for o cs)
chars_escaped o [] = refl
chars_escaped o (c ∷ cs) =
    let more = chars_escaped o cs in
    let bs = encode_utf8_all cs in
    cond_both (has_meaning o c) _ _ (λ l. escaped_for o (encode c ++ bs) ≡ encode_utf8_all l)
    (λ e. meaning_escaped o c bs e ∙ (ap (λ l. 92 ∷ (encode c ++ l)) more
    ∙ sym (ap (λ l. l ++ (encode c ++ encode_utf8_all (escaped_for o cs)))
    (encode_ascii 92 (lit< tt)))))
    (λ e. clear_stays o c bs e ∙ ap (λ l. encode c ++ l) more)

-- they are characters again
scalars_escaped : (o : Op) (cs : List ℕ) → scalars cs ≡ true → scalars (escaped_for o cs) ≡ true
scalars_escaped o [] h = refl
scalars_escaped o (c ∷ cs) h =
    let k = and_parts (scalar c) (scalars cs) h in
    let more = and_from (scalar c) (scalars (escaped_for o cs)) k.0 (scalars_escaped o cs k.1) in
    cond_both (has_meaning o c) _ _ (λ l. scalars l ≡ true)
    (λ e. and_from (scalar 92) (scalars (c ∷ escaped_for o cs)) (low_scalar 92 (omega arith)) more)
    (λ e. more)

-- ---- patterns

-- a character without a meaning in a pattern is none of `*`, `?` and `[`
not_special : (o : Op) (c : ℕ) → takes_pattern o ≡ true → has_meaning o c ≡ false
    → (c == 42 || c == 63 || c == 91) ≡ false
not_special o c tp e =
    sym (ap (λ t. t && (c == 42 || c == 63 || c == 91)) tp)
    ∙ (or_parts (c == 92 || c == 34) (takes_pattern o && (c == 42 || c == 63 || c == 91)) e).1

-- the escaped characters write one plain element each
writes : (o : Op) (cs : List ℕ) → takes_pattern o ≡ true
    → Writes (signs false (escaped_for o cs)) (plain_elements cs)
writes o [] tp = refl
writes o (c ∷ cs) tp =
    let more = writes o cs tp in
    let rest = signs false (escaped_for o cs) in
    cond_both (has_meaning o c) _ _ (λ l. Writes (signs false l) (plain_elements (c ∷ cs)))
    (λ e. (_, rest, refl, (_, refl, refl), more))
    (λ e. rw ((clear o c e).0) (_, rest, refl, (_, refl, (refl, not_special o c tp e)), more))

-- the pattern that the escaped text writes
pattern_back : (o : Op) (text : List ℕ) → takes_pattern o ≡ true → IsUtf8 text → SourcesAreRead
    → pattern_of (escaped_for o text) ≡ Ok (plain_elements (chars text))
pattern_back o text tp utf8 law =
    let cs = chars text in
    let same : chars (escaped_for o text) ≡ escaped_for o cs =
    ap (λ t. chars (escaped_for o t)) (sym (encodes-chars text utf8))
    ∙ (ap chars (chars_escaped o cs)
    ∙ chars-encodes (escaped_for o cs) (scalars_escaped o cs (scalars-chars text utf8))) in
    (law (escaped_for o text) (plain_elements cs)).1
    (subst (λ l. Writes (signs false l) (plain_elements cs)) (sym same) (writes o cs tp))

-- ---- the law

-- the literal that is read after each operator
reads_back : (o : Op) (text : List ℕ) → IsUtf8 text → SourcesAreRead
    → literal_of o (escaped_for o text) ≡ Some (text_literal o text)
reads_back Eq text utf8 law = ap pattern_literal (pattern_back Eq text refl utf8 law)
reads_back Ne text utf8 law = ap pattern_literal (pattern_back Ne text refl utf8 law)
reads_back Lt text utf8 law = ap (λ t. Some (Plain t)) (plain_back Lt text)
reads_back Le text utf8 law = ap (λ t. Some (Plain t)) (plain_back Le text)
reads_back Gt text utf8 law = ap (λ t. Some (Plain t)) (plain_back Gt text)
reads_back Ge text utf8 law = ap (λ t. Some (Plain t)) (plain_back Ge text)

-- the law
pub texts_meant : SourcesAreRead → TextsAreMeant
texts_meant law o text utf8 = record {
  quoted = (34, inl refl, stays_inside o text, refl);
  literal = reads_back o text utf8 law;
}
