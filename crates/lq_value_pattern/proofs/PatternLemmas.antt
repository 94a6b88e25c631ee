-- What a pattern's test says of splits of a text, and what plain elements fit.
use Rattle.std.proofs.Common.{◌≡◌, ◌≤◌, ◌<◌, ◌+◌, ℕ, zero, suc, List, [], ◌∷◌, ◌++◌, Bool, true, None, length, take, drop, get_or, refl, sym, ap, ◌∙◌, inl, inr, arith, append-nil, take-append-drop, drop-drop, drop-cons, eqb-true, eq-eqb, option_map, chars, IsUtf8, encode_utf8, encode_utf8_all}
use Rattle.std.proofs.lemmas.Bool.{and_parts, or_cases, or_right, false≢true}
use Rattle.std.proofs.lemmas.List.{map-append, take_more}
use Rattle.std.proofs.lemmas.List.Prefix.{front_rest}
use Rattle.std.proofs.lemmas.Str.{encodes-chars, encodes-append, chars_from_encodes}
use Rattle.lq_value_pattern.specs.declared.element.Element.{Element}
use Rattle.lq_value_pattern.specs.declared.element.Element.TheVariants.{Star, Any, Plain, Set}
use Rattle.lq_value_pattern.specs.Element.{takes}
use Rattle.lq_value_pattern.specs.Pattern.{Fits, is_fit, some_rest, head_then, plain_chars, plain_elements}

-- a test that some rest passes is passed at some place
pub some_found : (p : List ℕ → Bool) (cs : List ℕ) → some_rest p cs ≡ true
    → (k : ℕ) × (k ≤ length cs) × (p (drop k cs) ≡ true)
some_found p [] e = (0, omega arith, e)
some_found p (c ∷ cs) e = elim (or_cases (p (c ∷ cs)) (some_rest p cs) e) [
  | inl h ↦ (0, omega arith, h)
  | inr h ↦ let r = some_found p cs h in (suc r.0, omega (arith, r.1), r.2)
]

-- a test that is passed at a place is passed by some rest
pub some_at : (p : List ℕ → Bool) (cs : List ℕ) (k : ℕ) → p (drop k cs) ≡ true
    → some_rest p cs ≡ true
some_at p [] zero e = e
some_at p [] (suc k) e = e
some_at p (c ∷ cs) zero e = rw e refl
some_at p (c ∷ cs) (suc k) e = or_right (p (c ∷ cs)) (some_rest p cs) (some_at p cs k e)

-- what some rest of a rest passes, some rest of the text passes
pub some_dropped : (p : List ℕ → Bool) (cs : List ℕ) (k : ℕ) → some_rest p (drop k cs) ≡ true
    → some_rest p cs ≡ true
some_dropped p cs k e =
    let r = some_found p (drop k cs) e in some_at p cs (k + r.0) (rw drop-drop at r.2)

-- a test of the first character and the rest has them
head_found : (t : ℕ → Bool) (p : List ℕ → Bool) (cs : List ℕ) → head_then t p cs ≡ true
    → (c : ℕ) × (rest : List ℕ) × (cs ≡ c ∷ rest) × (t c ≡ true) × (p rest ≡ true)
head_found t p [] e = absurd (false≢true e)
head_found t p (c ∷ cs) e = let h = and_parts (t c) (p cs) e in (c, cs, refl, h.0, h.1)

-- the test is the same as a split
pub fits-sound : (es : List Element) (cs : List ℕ) → is_fit es cs ≡ true → Fits es cs
fits-sound [] [] e = refl
fits-sound [] (c ∷ cs) e = absurd (false≢true e)
fits-sound (Star ∷ es) cs e =
    let h = some_found (is_fit es) cs e in
    (take h.0 cs, drop h.0 cs, sym (take-append-drop h.0 cs), tt, fits-sound es (drop h.0 cs) h.2)
fits-sound (Any ∷ es) cs e =
    let h = head_found (takes Any) (is_fit es) cs e in
    (h.0 ∷ [], h.1, h.2, (h.0, refl), fits-sound es h.1 h.4)
fits-sound (Plain d ∷ es) cs e =
    let h = head_found (takes (Plain d)) (is_fit es) cs e in
    (h.0 ∷ [], h.1, h.2, ap (λ x. x ∷ []) (sym (eqb-true d h.0 h.3)), fits-sound es h.1 h.4)
fits-sound (Set n is ∷ es) cs e =
    let h = head_found (takes (Set n is)) (is_fit es) cs e in
    (h.0 ∷ [], h.1, h.2, (h.0, refl, grind (arith, h.3)), fits-sound es h.1 h.4)

-- each text that a pattern fits passes its test
pub fits-complete : (es : List Element) (cs : List ℕ) → Fits es cs → is_fit es cs ≡ true
fits-complete [] cs h = rw h refl
fits-complete (Star ∷ es) cs h =
    some_at (is_fit es) cs (length h.0) (rw (front_rest cs h.0 h.1 h.2) (fits-complete es h.1 h.4))
fits-complete (Any ∷ es) cs h = rw (h.2, h.3.1) (fits-complete es h.1 h.4)
fits-complete (Plain d ∷ es) cs h = rw (h.2, h.3, eq-eqb d d refl) (fits-complete es h.1 h.4)
fits-complete (Set n is ∷ es) cs h =
    let taken : takes (Set n is) h.3.0 ≡ true = grind (arith, h.3.2) in
    rw (h.2, h.3.1, taken) (fits-complete es h.1 h.4)

-- ---- the text of plain elements, character by character

-- the characters of a text to which one more is added
chars-push : (a b : List ℕ) (c : ℕ) → IsUtf8 a → IsUtf8 b → b ≡ a ++ encode_utf8 c
    → chars b ≡ chars a ++ c ∷ []
chars-push a b c u v e =
    let spelled : encode_utf8_all (chars a ++ c ∷ []) ≡ b =
    cc (encodes-append (chars a) (c ∷ []), encodes-chars a u, append-nil (encode_utf8 c)) in
    sym (chars_from_encodes (chars a ++ c ∷ []) b v spelled)

-- one plain element more
pub text_more : (es : List Element) (i : ℕ) (x : Element) (c : ℕ) (a b : List ℕ)
    → i < length es → x ≡ get_or es i x → x ≡ Plain c → IsUtf8 a → IsUtf8 b → b ≡ a ++ encode_utf8 c
    → plain_elements (chars a) ≡ take i es → plain_elements (chars b) ≡ take (i + 1) es
text_more es i x c a b h is plain u v e so_far =
    cc (chars-push a b c u v e, map-append (λ d. Plain d) (chars a) (c ∷ []), take_more es i x h)

-- an element that is no plain character has no plain text
not_plain : (cs : List ℕ) (x : Element) (rest : List Element) → ((c : ℕ) → x ≡ Plain c → ⊥)
    → plain_chars (plain_elements cs ++ x ∷ rest) ≡ None
not_plain [] (Plain c) rest h = absurd (h c refl)
not_plain [] x rest h = refl
not_plain (c ∷ cs) x rest h = ap (option_map (λ ds. c ∷ ds)) (not_plain cs x rest h)

-- one that isn't plain
pub text_none : (es : List Element) (i : ℕ) (x : Element) (cs : List ℕ) → i < length es
    → x ≡ get_or es i x → ((c : ℕ) → x ≡ Plain c → ⊥) → plain_elements cs ≡ take i es
    → plain_chars es ≡ None
text_none es i x cs h is other so_far =
    let all : es ≡ plain_elements cs ++ x ∷ drop (suc i) es =
    cc (take-append-drop i es, drop-cons es i x h) in
    ap plain_chars all ∙ not_plain cs x (drop (suc i) es) other
