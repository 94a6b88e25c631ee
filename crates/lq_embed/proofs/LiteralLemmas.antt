-- The literals of values, and how a text begins that has them in place.
use Rattle.std.proofs.Common.{◌≡◌, ◌∙◌, ◌+◌, ◌<◌, ◌==◌, ◌⊎◌, ◌&&◌, ◌/◌, ◌%◌, ℕ, ℤ, pos, negsuc, zero, suc, Bool, true, false, List, [], ◌∷◌, ◌++◌, refl, sym, ap, subst, arith, inl, inr, eq-eqb, ◌||◌}
use Rattle.std.specs.Prelude.{nat_le, nat_lt}
use Rattle.std.specs.List.{list_all}
use Rattle.std.specs.Fmt.{decimal, digits, digits_onto, digit_glyph, signed_decimal}
use Rattle.std.proofs.lemmas.Bool.{and_from, and_parts, cond_both, false≢true, ne_eqb}
use Rattle.lq_value.specs.declared.op.Op.{Op}
use Rattle.lq_value.specs.declared.value.Value.{Value}
use Rattle.lq_value.specs.declared.value.Value.TheVariants.{Text, Int32, Int64, UInt32, UInt64}
use Rattle.lq_predicate_formula.specs.Bytes.{ends_word}
use Rattle.lq_predicate_formula.specs.Tokens.{AreSigns, IsAfterWord, IsNotNext, IsToken, word, plain}
use Rattle.lq_embed.specs.BoundTokens.{raw_for}
use Rattle.lq_embed.specs.Quoting.{literal_for}
use Rattle.lq_embed.proofs.MeantLemmas.{stays_inside}

-- ---- how the rest begins

-- The other text is the same, or begins with the same byte, and then goes on unless that is no `\`.
abbrev pub SameStart : List ℕ → List ℕ → Type 0
SameStart rest other = (other ≡ rest) ⊎ ((b : ℕ) × (bs : List ℕ) × (cs : List ℕ)
    × (rest ≡ b ∷ bs) × (other ≡ b ∷ cs) × (((b == 92) ≡ false) ⊎ (bs ≡ [] → ⊥)))

-- the other text begins with a literal, so not with `=`
abbrev pub NoEquals : List ℕ → Type 0
NoEquals other = (b : ℕ) × (cs : List ℕ) × (other ≡ b ∷ cs) × ((b == 61) ≡ false)

-- a word ends before the other text too
pub ends_word_same : (rest other : List ℕ) → SameStart rest other → IsAfterWord rest
    → IsAfterWord other
ends_word_same rest other (inl same) ends = subst IsAfterWord (sym same) ends
ends_word_same rest other (inr (b, bs, cs, r, o, k)) (inl none) =
    absurd (let bad : ⊥ = cc in bad)
ends_word_same rest other (inr (b, bs, cs, r, o, inl clear)) (inr (inl slash)) =
    absurd (let e : b ≡ 92 = cc in
    false≢true (sym clear ∙ (ap (λ x. x == 92) e ∙ eq-eqb 92 92 refl)))
ends_word_same rest other (inr (b, bs, cs, r, o, inr some)) (inr (inl slash)) =
    absurd (some (let e : bs ≡ [] = cc in e))
ends_word_same rest other (inr (b, bs, cs, r, o, k)) (inr (inr (d, ds, e, ends))) =
    let same : d ≡ b = cc in inr (inr (b, cs, o, sym (ap ends_word same) ∙ ends))

-- what the text does not begin with, the other does not
pub not_next_same : (c : ℕ) (rest other : List ℕ) → SameStart rest other → IsNotNext c rest
    → IsNotNext c other
not_next_same c rest other (inl same) free = subst (IsNotNext c) (sym same) free
not_next_same c rest other (inr (b, bs, cs, r, o, k)) free = λ ds e.
    let same : b ≡ c = cc in free bs (r ∙ ap (λ x. x ∷ bs) same)

-- a literal is not taken for a longer operator
pub not_next_literal : (other : List ℕ) → NoEquals other → IsNotNext 61 other
not_next_literal other (b, cs, o, clear) = λ ds e.
    let same : b ≡ 61 = cc in
    false≢true (sym clear ∙ (ap (λ x. x == 61) same ∙ eq-eqb 61 61 refl))

-- ---- numbers

-- a digit or `-`
abbrev is_number_byte : ℕ → Bool
is_number_byte b = (nat_le 48 b && nat_le b 57) || b == 45

-- some of them, and nothing else
abbrev AreNumber : List ℕ → Type 0
AreNumber bytes = (list_all is_number_byte bytes ≡ true) × (bytes ≡ [] → ⊥)

-- no byte of a number is one of which the test fails
no_number : (c b : ℕ) → is_number_byte c ≡ false → is_number_byte b ≡ true → (b == c) ≡ false
no_number c b fails holds =
    ne_eqb b c (λ e. false≢true (sym fails ∙ sym (ap is_number_byte e) ∙ holds))

-- a digit of a number is one
glyph_is : (n : ℕ) → is_number_byte (digit_glyph false (n % 10)) ≡ true
glyph_is n = by (n % 10) (omega arith)
  where
    by : (d : ℕ) → d < 10 → is_number_byte (digit_glyph false d) ≡ true
    by d lt =
        let small : nat_lt d 10 ≡ true = grind (arith, lt) in
        let low : nat_le 48 (48 + d) ≡ true = grind arith in
        let high : nat_le (48 + d) 57 ≡ true = grind (arith, lt) in
        rw (small, low, high) refl

-- the digits of a number are such bytes
digits_are : (k n : ℕ) (acc : List ℕ) → list_all is_number_byte acc ≡ true
    → list_all is_number_byte (digits_onto k 10 false n acc) ≡ true
digits_are zero n acc all = all
digits_are (suc k) n acc all =
    let more : list_all is_number_byte (digit_glyph false (n % 10) ∷ acc) ≡ true =
    and_from (is_number_byte (digit_glyph false (n % 10))) (list_all is_number_byte acc)
    (glyph_is n) all in
    cond_both (n / 10 == 0) _ _ (λ l. list_all is_number_byte l ≡ true) (λ e. more)
    (λ e. digits_are k (n / 10) (digit_glyph false (n % 10) ∷ acc) more)

-- a number has a digit
some_digits : (k n b : ℕ) (acc : List ℕ) → digits_onto k 10 false n (b ∷ acc) ≡ [] → ⊥
some_digits zero n b acc = λ e. cc
some_digits (suc k) n b acc =
    cond_both (n / 10 == 0) _ _ (λ l. l ≡ [] → ⊥) (λ e none. cc)
    (λ e. some_digits k (n / 10) (digit_glyph false (n % 10)) (b ∷ acc))

-- the text of a number
decimal_number_text : (n : ℕ) → AreNumber (decimal n)
unfolding digits
decimal_number_text n = (
  digits_are 64 n [] refl,
  cond_both (n / 10 == 0) _ _ (λ l. l ≡ [] → ⊥) (λ e none. cc)
      (λ e. some_digits 63 (n / 10) (digit_glyph false (n % 10)) []),
)

-- and of one with a sign
signed_number_text : (z : ℤ) → AreNumber (signed_decimal z)
signed_number_text (pos n) = decimal_number_text n
signed_number_text (negsuc n) = ((decimal_number_text (suc n)).0, λ none. cc)

-- no such byte ends a word
number_ends_no : (b : ℕ) → is_number_byte b ≡ true → ends_word b ≡ false
number_ends_no b e =
    let no = λ (c : ℕ) (f : is_number_byte c ≡ false). no_number c b f e in
    rw (no 32 refl, no 9 refl, no 10 refl, no 13 refl, no 40 refl)
    (rw (no 41 refl, no 33 refl, no 38 refl, no 124 refl, no 61 refl)
    (rw (no 60 refl, no 62 refl, no 34 refl, no 39 refl)))

-- so they are signs of a word
number_signs : (bytes : List ℕ) → list_all is_number_byte bytes ≡ true
    → AreSigns ends_word bytes
number_signs [] e = ([], refl, tt)
number_signs (b ∷ bs) e =
    let all = and_parts (is_number_byte b) (list_all is_number_byte bs) e in
    let k = number_signs bs all.1 in (
      plain b ∷ k.0,
      ap (λ l. b ∷ l) k.1,
      ((no_number 92 b refl all.0, number_ends_no b all.0), k.2),
    )

-- ---- literals

-- the literal is the token of its raw text, where a word may end behind it
abbrev pub IsLiteral : List ℕ → List ℕ → List ℕ → Type 0
IsLiteral raw part rest = (inside : ℕ) × IsToken (word raw) inside part rest

-- a number is a word
number_token : (bytes rest : List ℕ) → AreNumber bytes → IsAfterWord rest
    → IsLiteral bytes bytes rest
number_token bytes rest are ends =
    (0, inl (refl, (refl, (number_signs bytes are.0, are.1, ends))))

-- the literal of a value is one token
pub literal_token : (o : Op) (value : Value) (rest : List ℕ) → IsAfterWord rest
    → IsLiteral (raw_for o value) (literal_for o value) rest
literal_token o (Text text) rest ends =
    (1, inr (refl, (_, refl, (34, inl refl, stays_inside o text, refl))))
literal_token o (Int32 n) rest ends =
    number_token (signed_decimal n) rest (signed_number_text n) ends
literal_token o (Int64 n) rest ends =
    number_token (signed_decimal n) rest (signed_number_text n) ends
literal_token o (UInt32 n) rest ends = number_token (decimal n) rest (decimal_number_text n) ends
literal_token o (UInt64 n) rest ends = number_token (decimal n) rest (decimal_number_text n) ends

-- no literal begins with `=`
number_starts : (bytes rest : List ℕ) → AreNumber bytes → NoEquals (bytes ++ rest)
number_starts [] rest are = absurd (are.1 refl)
number_starts (b ∷ bs) rest are = (
  b,
  bs ++ rest,
  refl,
  no_number 61 b refl
      (and_parts (is_number_byte b) (list_all is_number_byte bs) are.0).0,
)

-- and so is no literal of a value
pub literal_starts : (o : Op) (value : Value) (rest : List ℕ)
    → NoEquals (literal_for o value ++ rest)
literal_starts o (Text text) rest = (34, _, refl, refl)
literal_starts o (Int32 n) rest = number_starts (signed_decimal n) rest (signed_number_text n)
literal_starts o (Int64 n) rest = number_starts (signed_decimal n) rest (signed_number_text n)
literal_starts o (UInt32 n) rest = number_starts (decimal n) rest (decimal_number_text n)
literal_starts o (UInt64 n) rest = number_starts (decimal n) rest (decimal_number_text n)
