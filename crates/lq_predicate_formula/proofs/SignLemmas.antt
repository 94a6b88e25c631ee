-- What the lexer finds in a text is what its tokens are by their signs, and nothing else is.
use Rattle.std.proofs.Common.{◌≡◌, ◌⊎◌, ◌<◌, ◌≤◌, ◌+◌, ℕ, zero, suc, Bool, true, false, List, [], ◌∷◌, ◌++◌, length, get_or, take, drop, Option, Some, None, refl, sym, ap, ap₂, ◌∙◌, subst, arith, inl, inr, eq-eqb}
use Rattle.std.specs.Prelude.{◌==◌, ◌||◌, ◌&&◌, option_map}
use Rattle.std.specs.List.{list_all}
use Rattle.std.proofs.Math.Dec.{eqb-suc-zero}
use Rattle.std.proofs.Math.Seq.{take-append_seam, drop-append_seam}
use Rattle.std.proofs.lemmas.Bool.{and_parts, cond_both, eqb-true, false≢true, ne_eqb, or_cases, or_parts, true≢false}
use Rattle.std.proofs.lemmas.List.{append_assoc, append-nil, length-append, length-take-le, take-append-drop}
use Rattle.lq_value.specs.declared.op.Op.{Op}
use Rattle.lq_value.specs.declared.op.Op.TheVariants.{Eq, Ne, Lt, Le, Gt, Ge}
use Rattle.lq_predicate_formula.specs.Bytes.{ends_word, is_space}
use Rattle.lq_predicate_formula.specs.Tokens.{Token, opens, closes, bang, ands, ors, op, word, lone, cut, Placed, Sign, plain, escaped, sign_bytes, AllGoOn, AreSigns, AreWithout, IsAfterWord, HasNoEnd, IsBlank, IsQuote, IsNotNext, IsOp, IsQuoted, IsToken, IsTokenAt, IsUnquoted, HasTokens, Yields}
use Rattle.lq_predicate_formula.proofs.CountLemmas.{added, added_none}
use Rattle.lq_predicate_formula.specs.Lexing.{spaces, word_bytes, quoted_bytes, LexedToken, fixed, begins_with, longer, quoted_front, word_front, is_symbol, symbol_front, front, front_at, placed_at, BeginsBy, trimmed}

-- ---- tests of bytes

-- a byte that fails a test isn't one that passes it
not_this : (t : ℕ → Bool) (c b : ℕ) → t c ≡ true → t b ≡ false → (b == c) ≡ false
not_this t c b holds fails = ne_eqb b c (λ e. true≢false (sym holds ∙ sym (ap t e) ∙ fails))

-- a byte that passes a test isn't one that fails it
pub not_that : (t : ℕ → Bool) (c b : ℕ) → t c ≡ false → t b ≡ true → (b == c) ≡ false
not_that t c b fails holds = ne_eqb b c (λ e. false≢true (sym fails ∙ sym (ap t e) ∙ holds))

-- a byte that ends no word is no white space
no_space : (b : ℕ) → ends_word b ≡ false → is_space b ≡ false
no_space b h =
    let no = λ (c : ℕ) (e : ends_word c ≡ true). not_this ends_word c b e h in
    rw (no 32 refl, no 9 refl, no 10 refl, no 13 refl)

-- and no symbol
no_symbol : (b : ℕ) → ends_word b ≡ false → is_symbol b ≡ false
no_symbol b h =
    let no = λ (c : ℕ) (e : ends_word c ≡ true). not_this ends_word c b e h in
    rw (no 40 refl, no 41 refl, no 33 refl, no 61 refl)
    (rw (no 60 refl, no 62 refl, no 38 refl, no 124 refl))

-- and no mark
no_mark : (b : ℕ) → ends_word b ≡ false → (b == 34 || b == 39) ≡ false
no_mark b h = rw (not_this ends_word 34 b refl h, not_this ends_word 39 b refl h)

-- a byte that is none of the three ends no word
no_end : (b : ℕ) → is_space b ≡ false → is_symbol b ≡ false → (b == 34 || b == 39) ≡ false
    → ends_word b ≡ false
no_end b s h m =
    let no = λ (c : ℕ) (e : is_symbol c ≡ true). not_this is_symbol c b e h in
    let marks = or_parts (b == 34) (b == 39) m in
    rw (s, no 40 refl, no 41 refl, no 33 refl, no 38 refl)
    (rw (no 124 refl, no 61 refl, no 60 refl, no 62 refl, marks.0, marks.1))

-- ---- a byte that is next, or isn't

-- where a byte isn't next, the lexer doesn't see it
not_next : (c : ℕ) (rest : List ℕ) → IsNotNext c rest → begins_with c rest ≡ false
not_next c [] h = refl
not_next c (b ∷ bs) h = ne_eqb b c (λ e. absurd (h bs (ap (λ x. x ∷ bs) e)))

-- where the lexer doesn't see a byte, it isn't next
pub is_not_next : (c : ℕ) (rest : List ℕ) → begins_with c rest ≡ false → IsNotNext c rest
is_not_next c rest h bs e =
    true≢false (sym (eq-eqb c c refl) ∙ sym (ap (begins_with c) e) ∙ h)

-- where the lexer sees it, it is next
is_next : (c : ℕ) (rest : List ℕ) → begins_with c rest ≡ true → (cs : List ℕ) × (rest ≡ c ∷ cs)
is_next c [] h = absurd (false≢true h)
is_next c (b ∷ bs) h = (bs, ap (λ x. x ∷ bs) (eqb-true b c h))

-- ---- words: what the signs are, the lexer counts

-- no byte of a word is counted where words end
ends_none : (rest : List ℕ) → IsAfterWord rest → word_bytes false rest ≡ 0
ends_none rest (inl e) = ap (word_bytes false) e
ends_none rest (inr (inl e)) = ap (word_bytes false) e
ends_none rest (inr (inr h)) =
    rw (h.2, not_that ends_word 92 h.0 refl h.3, h.3)

-- signs that end no word are counted
signs_word : (ss : List Sign) (rest : List ℕ) → AllGoOn ends_word ss → IsAfterWord rest
    → word_bytes false (sign_bytes ss ++ rest) ≡ length (sign_bytes ss)
signs_word [] rest h e = ends_none rest e
signs_word (plain b ∷ ss) rest h e = rw (h.0.0, h.0.1, signs_word ss rest h.1 e)
signs_word (escaped b ∷ ss) rest h e = ap (λ n. suc (suc n)) (signs_word ss rest h.1 e)

-- a front by its parts
abbrev front_with : Token → ℕ → ℕ → LexedToken
front_with t n i = record { token = t; size = n; inside = i }

-- the part begins with a byte that is no white space, and the front of the text is the token
abbrev pub Starts : Token → ℕ → List ℕ → List ℕ → Type 0
Starts t inside part rest = (b : ℕ) × (bs : List ℕ) × (part ≡ b ∷ bs) × (is_space b ≡ false)
    × (front b (bs ++ rest) ≡ front_with t (suc (length bs)) inside)

-- a first byte that begins nothing else begins a word of the bytes that are counted
counted_word : (b : ℕ) (bs rest : List ℕ) → is_symbol b ≡ false → (b == 34 || b == 39) ≡ false
    → word_bytes false (b ∷ bs ++ rest) ≡ suc (length bs)
    → front b (bs ++ rest) ≡ front_with (word (b ∷ bs)) (suc (length bs)) 0
counted_word b bs rest s m e =
    rw (s, m, e, eqb-suc-zero (length bs), take-append_seam (b ∷ bs) rest)

-- a word by its signs is the word that the lexer finds
signs_start : (ss : List Sign) (rest : List ℕ) → AllGoOn ends_word ss
    → (sign_bytes ss ≡ [] → ⊥) → IsAfterWord rest
    → Starts (word (sign_bytes ss)) 0 (sign_bytes ss) rest
signs_start [] rest h some e = absurd (some refl)
signs_start (plain b ∷ ss) rest h some e = (
  b,
  sign_bytes ss,
  refl,
  no_space b h.0.1,
  counted_word b (sign_bytes ss) rest (no_symbol b h.0.1) (no_mark b h.0.1)
      (signs_word (plain b ∷ ss) rest h e),
)
signs_start (escaped b ∷ ss) rest h some e = (
  92,
  b ∷ sign_bytes ss,
  refl,
  refl,
  counted_word 92 (b ∷ sign_bytes ss) rest refl refl (signs_word (escaped b ∷ ss) rest h e),
)

-- ---- quoted texts: what the signs are, the lexer counts

-- more bytes before others
added_more : (m n : ℕ) (grow : ℕ → ℕ) → ((k : ℕ) → grow (n + k) ≡ m + k) → (o : Option ℕ)
    → option_map grow (added n o) ≡ added m o
added_more m n grow same None = refl
added_more m n grow same (Some k) = ap Some (same k)

-- signs without the mark are passed over
signs_quoted : (m : ℕ) (ss : List Sign) (rest : List ℕ) → AllGoOn (λ b. b == m) ss
    → quoted_bytes m false (sign_bytes ss ++ rest)
    ≡ added (length (sign_bytes ss)) (quoted_bytes m false rest)
signs_quoted m [] rest h = sym (added_none (quoted_bytes m false rest))
signs_quoted m (plain b ∷ ss) rest h =
    let n = length (sign_bytes ss) in
    rw (h.0.0, h.0.1, signs_quoted m ss rest h.1)
    (added_more (suc n) n (λ k. suc k) (λ k. omega arith) (quoted_bytes m false rest))
signs_quoted m (escaped b ∷ ss) rest h =
    let n = length (sign_bytes ss) in
    let o = quoted_bytes m false rest in
    rw (signs_quoted m ss rest h.1)
    (added_more (suc (suc n)) n (λ k. suc (suc k)) (λ k. omega arith) o)

-- a mark is no white space, begins a quoted text, and ends one
marks : (m : ℕ) → IsQuote m → (is_space m ≡ false)
    × ((bs : List ℕ) → front m bs ≡ quoted_front bs (quoted_bytes m false bs))
    × ((rest : List ℕ) → quoted_bytes m false (m ∷ rest) ≡ Some 0)
marks m (inl e) = rw e (refl, (λ bs. refl), λ rest. refl)
marks m (inr e) = rw e (refl, (λ bs. refl), λ rest. refl)

-- a quoted text ends at its mark
quoted_is : (m : ℕ) (raw rest : List ℕ) → IsQuote m → AreWithout m raw
    → quoted_bytes m false (raw ++ m ∷ rest) ≡ Some (length raw)
quoted_is m raw rest mark h =
    let e : length (sign_bytes h.0) + 0 ≡ length (sign_bytes h.0) = omega arith in
    rw h.1 (signs_quoted m h.0 (m ∷ rest) h.2
    ∙ ap (added (length (sign_bytes h.0))) ((marks m mark).2 rest) ∙ ap Some e)

-- a text without the mark has no end, also where a `\` ends it
no_end_none : (m : ℕ) (bs : List ℕ) → HasNoEnd m bs → quoted_bytes m false bs ≡ None
no_end_none m bs h = elim h.2 [
  | inl e ↦ ap (quoted_bytes m false) (e ∙ h.1.1 ∙ sym (append-nil (sign_bytes h.1.0)))
      ∙ signs_quoted m h.1.0 [] h.1.2
  | inr e ↦ ap (quoted_bytes m false) (e ∙ ap (λ l. l ++ 92 ∷ []) h.1.1)
      ∙ signs_quoted m h.1.0 (92 ∷ []) h.1.2
]

-- ---- a token by its signs is the one that the lexer finds

-- an operator
op_starts : (o : Op) (part rest : List ℕ) → IsOp o part rest → Starts (op o) 0 part rest
op_starts Eq part rest (inl e) = (61, 61 ∷ [], e, refl, refl)
op_starts Eq part rest (inr h) = (61, [], h.0, refl, rw (not_next 61 rest h.1))
op_starts Ne part rest e = (33, 61 ∷ [], e, refl, refl)
op_starts Lt part rest h = (60, [], h.0, refl, rw (not_next 61 rest h.1))
op_starts Le part rest e = (60, 61 ∷ [], e, refl, refl)
op_starts Gt part rest h = (62, [], h.0, refl, rw (not_next 61 rest h.1))
op_starts Ge part rest e = (62, 61 ∷ [], e, refl, refl)

-- a token that is no quoted text
unquoted_starts : (t : Token) (part rest : List ℕ) → IsUnquoted t part rest → Starts t 0 part rest
unquoted_starts opens part rest e = (40, [], e, refl, refl)
unquoted_starts closes part rest e = (41, [], e, refl, refl)
unquoted_starts bang part rest h = (33, [], h.0, refl, rw (not_next 61 rest h.1))
unquoted_starts ands part rest e = (38, 38 ∷ [], e, refl, refl)
unquoted_starts ors part rest e = (124, 124 ∷ [], e, refl, refl)
unquoted_starts (op o) part rest h = op_starts o part rest h
unquoted_starts (word raw) part rest h =
    let is = h.1.0.1 in
    let s = signs_start h.1.0.0 rest h.1.0.2 (λ none. h.1.1 (is ∙ none)) h.1.2 in
    subst (λ p. Starts (word raw) 0 p rest) (sym h.0)
    (subst (λ l. Starts (word l) 0 l rest) (sym is) s)
unquoted_starts lone part rest (inl h) = (38, [], h.0, refl, rw (not_next 38 rest h.1))
unquoted_starts lone part rest (inr h) = (124, [], h.0, refl, rw (not_next 124 rest h.1))
unquoted_starts cut part rest h = elim h.1 [
  | inl e ↦ (92, [], e, refl, ap (front 92) h.0)
  | inr u ↦ (
    u.0,
    u.1,
    u.4,
    (marks u.0 u.2).0,
    ap (λ r. front u.0 (u.1 ++ r)) h.0 ∙ ap (front u.0) (append-nil u.1)
        ∙ (marks u.0 u.2).1 u.1 ∙ ap (quoted_front u.1) (no_end_none u.0 u.1 u.3),
  )
]

-- a quoted text
quoted_starts : (raw part rest : List ℕ) → IsQuoted raw part → Starts (word raw) 1 part rest
quoted_starts raw part rest q =
    let m = q.0 in
    let bs = raw ++ m ∷ rest in
    let size : suc (suc (length raw)) ≡ suc (length (raw ++ m ∷ [])) =
    omega (arith, length-append raw (m ∷ [])) in (
      m,
      raw ++ m ∷ [],
      q.3,
      (marks m q.1).0,
      ap (front m) (append_assoc raw (m ∷ []) rest) ∙ (marks m q.1).1 bs
          ∙ ap (quoted_front bs) (quoted_is m raw rest q.1 q.2)
          ∙ ap (λ l. front_with (word l) (suc (suc (length raw))) 1)
          (take-append_seam raw (m ∷ rest)) ∙ ap (λ n. front_with (word raw) n 1) size,
    )

-- any token
pub token_starts : (t : Token) (inside : ℕ) (part rest : List ℕ) → IsToken t inside part rest
    → Starts t inside part rest
token_starts t inside part rest (inl u) =
    subst (λ i. Starts t i part rest) (sym u.0) (unquoted_starts t part rest u.1)
token_starts t inside part rest (inr q) = subst (λ i. Starts t i part rest) (sym q.0)
    (subst (λ k. Starts k 1 part rest) (sym q.1.1) (quoted_starts q.1.0 part rest q.1.2))

-- ---- white space

-- the bytes begin with one that is no white space
abbrev Begun : List ℕ → Type 0
Begun l = (b : ℕ) × (bs : List ℕ) × (l ≡ b ∷ bs) × (is_space b ≡ false)

-- white space before a token is counted, and no more
blank_spaces : (blank l : List ℕ) → IsBlank blank → Begun l → spaces (blank ++ l) ≡ length blank
blank_spaces [] l h b = rw (b.2, b.3)
blank_spaces (x ∷ xs) l h b =
    let all = and_parts (is_space x) (list_all is_space xs) h in
    rw (all.0, blank_spaces xs l all.1 b)

-- white space alone is trimmed whole
blank_trimmed : (bs : List ℕ) → IsBlank bs → trimmed bs ≡ []
blank_trimmed [] h = refl
blank_trimmed (b ∷ bs) h =
    let all = and_parts (is_space b) (list_all is_space bs) h in
    rw all.0 (blank_trimmed bs all.1)

-- so many bytes are white space, and then the text ends or a byte is none
abbrev Trims : List ℕ → ℕ → Type 0
Trims bs n = IsBlank (take n bs) × (n ≤ length bs) × ((drop n bs ≡ []) ⊎ Begun (drop n bs))

-- what is counted as white space is all of it
trims : (bs : List ℕ) → Trims bs (spaces bs)
trims [] = (refl, omega arith, inl refl)
trims (b ∷ bs) =
    let more = trims bs in
    cond_both (is_space b) (suc (spaces bs)) 0 (Trims (b ∷ bs)) (λ e. (
      ap (λ t. t && list_all is_space (take (spaces bs) bs)) e ∙ more.0,
      omega (arith, more.1),
      more.2,
    )) (λ e. (refl, omega arith, inr (b, bs, refl, e)))

-- what is trimmed whole is white space
pub trimmed_blank : (bs : List ℕ) → trimmed bs ≡ [] → IsBlank bs
trimmed_blank bs h =
    let n = spaces bs in
    subst IsBlank (sym (append-nil (take n bs)) ∙ ap (λ l. take n bs ++ l) (sym h)
    ∙ take-append-drop n bs) (trims bs).0

-- what is left begins with no white space
pub trimmed_begun : (bs : List ℕ) → 0 < length (trimmed bs) → Begun (trimmed bs)
trimmed_begun bs h = elim (trims bs).2 [
  | inl none ↦ let l : length (trimmed bs) ≡ 0 = ap length none in absurd (omega arith)
  | inr b ↦ b
]

-- ---- what a text yields is what the lexer finds

-- the text from an offset on begins, after white space, with the token that the lexer finds
abbrev pub YieldsBy : ℕ → List ℕ → Placed → ℕ → List ℕ → Type 0
YieldsBy at bs t next rest = BeginsBy (at + spaces bs) (trimmed bs) t next rest

-- the text from an offset on has the tokens that the lexer finds
abbrev pub HasFronts : ℕ → List ℕ → List Placed → Type 0
HasFronts at bs [] = trimmed bs ≡ []
HasFronts at bs (t ∷ ts) =
    (next : ℕ) × (rest : List ℕ) × YieldsBy at bs t next rest × HasFronts next rest ts

-- a token by its signs is the one with which the lexer says that the text begins
begins_by : (at : ℕ) (part rest : List ℕ) (t : Placed) → IsTokenAt at part rest t
    → BeginsBy at (part ++ rest) t (at + length part) rest
begins_by at part rest t h =
    let s = token_starts t.token h.inside part rest h.token in
    let f = subst (λ p. front_at (p ++ rest) ≡ front_with t.token (length p) h.inside) (sym s.2) s.4
    in
    let some : length part ≡ suc (length s.1) = ap length s.2 in (
      omega (arith, some, length-append part rest),
      ap₂ (λ p r. record { offset = p; raw_offset = r; token = t.token }) h.offset h.raw
          ∙ ap (placed_at at) (sym f),
      ap (λ x. at + x.size) (sym f),
      sym (ap (λ x. drop x.size (part ++ rest)) f ∙ drop-append_seam part rest),
    )

-- the same after white space
yields_by : (at : ℕ) (bs : List ℕ) (t : Placed) (next : ℕ) (rest : List ℕ)
    → Yields at bs t next rest → YieldsBy at bs t next rest
yields_by at bs t next rest y =
    let l = y.part ++ rest in
    let s = token_starts t.token y.token.inside y.part rest y.token.token in
    let n = blank_spaces y.blank l y.white (s.0, s.1 ++ rest, ap (λ p. p ++ rest) s.2, s.3) in
    rw (y.split, n, drop-append_seam y.blank l, y.is_next)
    (begins_by (at + length y.blank) y.part rest t y.token)

-- the same for all tokens of a text
pub tokens_by : (ts : List Placed) (at : ℕ) (bs : List ℕ) → HasTokens at bs ts
    → HasFronts at bs ts
tokens_by [] at bs h = blank_trimmed bs h
tokens_by (t ∷ ts) at bs h =
    (h.0, h.1, yields_by at bs t h.0 h.1 h.2, tokens_by ts h.0 h.1 h.3)

-- ---- what the lexer finds is what a text yields

-- a word of this many bytes
abbrev Splits : ℕ → List ℕ → Type 0
Splits n bs =
    AreSigns ends_word (take n bs) × IsAfterWord (drop n bs) × (length (take n bs) ≡ n)

-- the bytes of a word that the lexer counts are signs, and then words end; the same after a `\`
word_splits : (bs : List ℕ)
    → Splits (word_bytes false bs) bs × Splits (word_bytes true bs) (92 ∷ bs)
word_splits [] = ((([], refl, tt), inl refl, refl), (([], refl, tt), inr (inl refl), refl))
word_splits (b ∷ bs) =
    let more = word_splits bs in
    let k = more.0 in (
      cond_both (b == 92) _ _ (λ n. Splits n (b ∷ bs))
          (λ e. subst (λ x. Splits (word_bytes true bs) (x ∷ bs)) (sym (eqb-true b 92 e)) more.1)
          (λ e. cond_both (ends_word b) _ _ (λ n. Splits n (b ∷ bs))
          (λ f. (([], refl, tt), inr (inr (b, bs, refl, f)), refl)) (λ f. (
            (plain b ∷ k.0.0, ap (λ l. b ∷ l) k.0.1, ((e, f), k.0.2)),
            k.1,
            ap (λ n. suc n) k.2,
          ))),
      (
        (escaped b ∷ k.0.0, ap (λ l. 92 ∷ b ∷ l) k.0.1, (tt, k.0.2)),
        k.1,
        ap (λ n. suc (suc n)) k.2,
      ),
    )

-- the raw text is all, but perhaps a last `\`, or it has this many bytes and the mark comes next
abbrev Tail : ℕ → Option ℕ → List ℕ → List ℕ → Type 0
Tail m None raw bs = (bs ≡ raw) ⊎ (bs ≡ raw ++ 92 ∷ [])
Tail m (Some n) raw bs = (rest : List ℕ) × (length raw ≡ n) × (bs ≡ raw ++ m ∷ rest)

-- a quoted text of this many bytes, or one without an end
abbrev Closed : ℕ → Option ℕ → List ℕ → Type 0
Closed m o bs = (raw : List ℕ) × AreWithout m raw × Tail m o raw bs

-- a sign more before the end
tail_more : (m : ℕ) (sign : List ℕ) (grow : ℕ → ℕ)
    → ((l : List ℕ) → length (sign ++ l) ≡ grow (length l)) → (o : Option ℕ) (raw bs : List ℕ)
    → Tail m o raw bs → Tail m (option_map grow o) (sign ++ raw) (sign ++ bs)
tail_more m sign grow long None raw bs (inl h) = inl (ap (λ l. sign ++ l) h)
tail_more m sign grow long None raw bs (inr h) =
    inr (ap (λ l. sign ++ l) h ∙ sym (append_assoc sign raw (92 ∷ [])))
tail_more m sign grow long (Some n) raw bs h = (
  h.0,
  long raw ∙ ap grow h.1,
  ap (λ l. sign ++ l) h.2 ∙ sym (append_assoc sign raw (m ∷ h.0)),
)

-- the bytes of a quoted text that the lexer counts are signs without the mark; the same after a `\`
quoted_splits : (m : ℕ) (bs : List ℕ)
    → Closed m (quoted_bytes m false bs) bs × Closed m (quoted_bytes m true bs) (92 ∷ bs)
quoted_splits m [] = (([], ([], refl, tt), inl refl), ([], ([], refl, tt), inr refl))
quoted_splits m (b ∷ bs) =
    let more = quoted_splits m bs in
    let k = more.0 in
    let o = quoted_bytes m false bs in (
      cond_both (b == 92) _ _ (λ r. Closed m r (b ∷ bs))
          (λ e. subst (λ x. Closed m (quoted_bytes m true bs) (x ∷ bs)) (sym (eqb-true b 92 e))
          more.1)
          (λ e. cond_both (b == m) _ _ (λ r. Closed m r (b ∷ bs))
          (λ f. ([], ([], refl, tt), (bs, refl, ap (λ x. x ∷ bs) (eqb-true b m f)))) (λ f. (
            b ∷ k.0,
            (plain b ∷ k.1.0, ap (λ l. b ∷ l) k.1.1, ((e, f), k.1.2)),
            tail_more m (b ∷ []) (λ n. suc n) (λ l. refl) o k.0 bs k.2,
          ))),
      (
        92 ∷ b ∷ k.0,
        (escaped b ∷ k.1.0, ap (λ l. 92 ∷ b ∷ l) k.1.1, (tt, k.1.2)),
        tail_more m (92 ∷ b ∷ []) (λ n. suc (suc n)) (λ l. refl) o k.0 bs k.2,
      ),
    )

-- the text begins with the token of a front, by its signs
abbrev pub Stands : List ℕ → LexedToken → Type 0
Stands l f = (part : List ℕ) × (rest : List ℕ) × (l ≡ part ++ rest) × (length part ≡ f.size)
    × IsToken f.token f.inside part rest

-- a symbol of two bytes, or of one
longer_stands : (b c d : ℕ) (bs : List ℕ) (t u : Token) → (b == c) ≡ true
    → ((rest : List ℕ) → IsUnquoted t (c ∷ d ∷ []) rest)
    → (IsNotNext d bs → IsUnquoted u (c ∷ []) bs) → Stands (b ∷ bs) (longer d bs t u)
longer_stands b c d bs t u e two one =
    let first = eqb-true b c e in
    cond_both (begins_with d bs) (fixed t 2) (fixed u 1) (Stands (b ∷ bs)) (λ f.
    let next = is_next d bs f in
    (c ∷ d ∷ [], next.0, ap₂ (λ x l. x ∷ l) first next.1, refl, inl (refl, two next.0))) (λ f.
    (c ∷ [], bs, ap (λ x. x ∷ bs) first, refl, inl (refl, one (is_not_next d bs f))))

-- a symbol
symbol_stands : (b : ℕ) (bs : List ℕ) → is_symbol b ≡ true → Stands (b ∷ bs) (symbol_front b bs)
symbol_stands b bs h =
    let P = Stands (b ∷ bs) in
    let paren = λ (c : ℕ) (e : (b == c) ≡ true). ap (λ x. x ∷ bs) (eqb-true b c e) in
    cond_both (b == 40) _ _ P (λ e. (40 ∷ [], bs, paren 40 e, refl, inl (refl, refl))) (λ e0.
    cond_both (b == 41) _ _ P (λ e. (41 ∷ [], bs, paren 41 e, refl, inl (refl, refl))) (λ e1.
    cond_both (b == 33) _ _ P
    (λ e. longer_stands b 33 61 bs (op Ne) bang e (λ r. refl) (λ n. (refl, n))) (λ e2.
    cond_both (b == 61) _ _ P
    (λ e. longer_stands b 61 61 bs (op Eq) (op Eq) e (λ r. inl refl) (λ n. inr (refl, n))) (λ e3.
    cond_both (b == 60) _ _ P
    (λ e. longer_stands b 60 61 bs (op Le) (op Lt) e (λ r. refl) (λ n. (refl, n))) (λ e4.
    cond_both (b == 62) _ _ P
    (λ e. longer_stands b 62 61 bs (op Ge) (op Gt) e (λ r. refl) (λ n. (refl, n))) (λ e5.
    cond_both (b == 38) _ _ P
    (λ e. longer_stands b 38 38 bs ands lone e (λ r. refl) (λ n. inl (refl, n))) (λ e6.
    longer_stands b 124 124 bs ors lone (rw (e0, e1, e2, e3, e4, e5, e6) at h) (λ r. refl)
    (λ n. inr (refl, n)))))))))

-- a mark is one of two
mark_is : (b : ℕ) → (b == 34 || b == 39) ≡ true → IsQuote b
mark_is b e = elim (or_cases _ _ e) [
  | inl h ↦ inl (eqb-true b 34 h)
  | inr h ↦ inr (eqb-true b 39 h)
]

-- a quoted text, with its end or without
quoted_stands : (m : ℕ) (bs : List ℕ) (o : Option ℕ) → IsQuote m → Closed m o bs
    → Stands (m ∷ bs) (quoted_front bs o)
quoted_stands m bs None mark c =
    (m ∷ bs, [], sym (append-nil (m ∷ bs)), refl, inl (refl, (refl, inr (m, bs, mark, c, refl))))
quoted_stands m bs (Some n) mark c =
    let raw = c.0 in
    let end = c.2 in
    let is_raw : take n bs ≡ raw =
    ap₂ take (sym end.1) end.2 ∙ take-append_seam raw (m ∷ end.0) in (
      m ∷ (raw ++ m ∷ []),
      end.0,
      ap (λ l. m ∷ l) (end.2 ∙ sym (append_assoc raw (m ∷ []) end.0)),
      omega (arith, end.1, length-append raw (m ∷ [])),
      inr (refl, (raw, ap word is_raw, (m, mark, c.1, refl))),
    )

-- a word, or a `\` with nothing after it
word_stands : (b : ℕ) (bs : List ℕ) (n : ℕ) → ends_word b ≡ false → Splits n (b ∷ bs)
    → Stands (b ∷ bs) (word_front (b ∷ bs) n)
word_stands b bs zero inner s =
    (b ∷ bs, [], sym (append-nil (b ∷ bs)), refl, inl (refl, (refl, inl (only s.1))))
  where
    only : IsAfterWord (b ∷ bs) → b ∷ bs ≡ 92 ∷ []
    only (inl e) = let l : suc (length bs) ≡ 0 = ap length e in absurd (omega arith)
    only (inr (inl e)) = e
    only (inr (inr h)) =
        let same : b ≡ h.0 = ap (λ l. get_or l 0 0) h.2 in
        absurd (true≢false (sym h.3 ∙ sym (ap ends_word same) ∙ inner))
word_stands b bs (suc n) inner s = rw (eqb-suc-zero n) (
  take (suc n) (b ∷ bs),
  drop (suc n) (b ∷ bs),
  sym (take-append-drop (suc n) (b ∷ bs)),
  s.2,
  inl (
    refl,
    (
      refl,
      (
        s.0,
        (λ e. let l : suc (length (take n bs)) ≡ 0 = ap length e in omega arith),
        s.1,
      ),
    ),
  ),
)

-- the token that the lexer finds at the start of a text
pub front_stands : (b : ℕ) (bs : List ℕ) → is_space b ≡ false → Stands (b ∷ bs) (front b bs)
front_stands b bs s =
    cond_both (is_symbol b) _ _ (Stands (b ∷ bs)) (symbol_stands b bs) (λ h.
    cond_both (b == 34 || b == 39) _ _ (Stands (b ∷ bs)) (λ m.
    quoted_stands b bs (quoted_bytes b false bs) (mark_is b m) (quoted_splits b bs).0) (λ m.
    word_stands b bs (word_bytes false (b ∷ bs)) (no_end b s h m) (word_splits (b ∷ bs)).0))

-- what the lexer finds at the start of a text, after white space, is its token
pub yields_of : (at : ℕ) (bs : List ℕ) (t : Placed) (next : ℕ) (rest : List ℕ)
    → YieldsBy at bs t next rest → Yields at bs t next rest
yields_of at bs t next rest y =
    let n = spaces bs in
    let l = trimmed bs in
    let f = front_at l in
    let b = trimmed_begun bs y.0 in
    let k : Stands l f = subst (λ x. Stands x (front_at x)) (sym b.2) (front_stands b.0 b.1 b.3) in
    let long : length (take n bs) ≡ n = length-take-le n bs (trims bs).1 in
    let same : rest ≡ k.1 = y.3 ∙ ap₂ drop (sym k.3) k.2 ∙ drop-append_seam k.0 k.1 in
    let token : IsTokenAt (at + n) k.0 k.1 (placed_at (at + n) f) =
    record { offset = refl; inside = f.inside; raw = refl; token = k.4 } in
    record {
      blank = take n bs;
      part = k.0;
      split = sym (take-append-drop n bs) ∙ ap (λ x. take n bs ++ x)
          (k.2 ∙ ap (λ r. k.0 ++ r) (sym same));
      white = (trims bs).0;
      token = rw (long, same, y.1) token;
      is_next = y.2 ∙ ap₂ (λ i m. (at + i) + m) (sym long) (sym k.3);
    }

-- the same for all tokens of a text
pub tokens_of_fronts : (ts : List Placed) (at : ℕ) (bs : List ℕ) → HasFronts at bs ts
    → HasTokens at bs ts
tokens_of_fronts [] at bs h = trimmed_blank bs h
tokens_of_fronts (t ∷ ts) at bs h =
    (h.0, h.1, yields_of at bs t h.0 h.1 h.2, tokens_of_fronts ts h.0 h.1 h.3)
