-- A pattern of a text's characters and stars: its canonical text is a source of it, and how long
-- that text is.
use Rattle.std.proofs.Common.{◌≡◌, ◌+◌, ℕ, Bool, true, false, List, [], ◌∷◌, ◌++◌, length, refl, ap, ◌∙◌, arith, IsUtf8}
use Rattle.std.specs.Prelude.{if◌then◌else◌, ◌||◌, ◌==◌}
use Rattle.std.specs.Str.{chars, encode_utf8_all}
use Rattle.std.proofs.Math.Dec.{lit<}
use Rattle.std.proofs.Math.Utf8.{scalar, scalars}
use Rattle.std.proofs.lemmas.Bool.{and_parts}
use Rattle.std.proofs.lemmas.List.{length-append}
use Rattle.std.proofs.lemmas.Str.{encode_ascii, encodes-append, scalars-chars}
use Rattle.lq_value.specs.Element.{Element}
use Rattle.lq_value.specs.Pattern.{plain_elements, star_if}
use Rattle.lq_predicate_formula.specs.Canonical.{pattern_text, plain_then}
use Rattle.lq_predicate_formula.specs.Limits.{IsGoodPattern}
use Rattle.lq_predicate.specs.Stack.{star_count, starred}

-- a good pattern and then another are a good pattern
good-append : (es fs : List Element) → IsGoodPattern es → IsGoodPattern fs
    → IsGoodPattern (es ++ fs)
good-append [] fs h k = k
good-append (e ∷ es) fs h k = (h.0, good-append es fs h.1 k)

-- the characters of a text of scalar values are a good pattern
plain_good : (cs : List ℕ) → scalars cs ≡ true → IsGoodPattern (plain_elements cs)
plain_good [] e = tt
plain_good (c ∷ cs) e = let h = and_parts (scalar c) (scalars cs) e in (h.0, plain_good cs h.1)

-- the characters of a text of UTF-8 are a good pattern
pub text_good : (text : List ℕ) → IsUtf8 text → IsGoodPattern (plain_elements (chars text))
text_good text u = plain_good (chars text) (scalars-chars text u)

-- a star, or none, is a good pattern
star_good : (b : Bool) → IsGoodPattern (star_if b)
star_good true = (tt, tt)
star_good false = tt

-- a text of UTF-8, with stars before or after it, is a good pattern
pub starred_good : (before : Bool) (text : List ℕ) (behind : Bool) → IsUtf8 text
    → IsGoodPattern (starred before text behind)
starred_good before text behind u =
    good-append (star_if before) _ (star_good before) (good-append (plain_elements (chars text))
    (star_if behind) (plain_good (chars text) (scalars-chars text u)) (star_good behind))

-- ---- how long its text is

-- what follows a character, escaped or not, may be added after it
plain_then-append : (b : Bool) (c : ℕ) (xs rest : List ℕ)
    → (if b then 92 ∷ c ∷ (xs ++ rest) else c ∷ (xs ++ rest))
    ≡ (if b then 92 ∷ c ∷ xs else c ∷ xs) ++ rest
plain_then-append true c xs rest = refl
plain_then-append false c xs rest = refl

-- the characters of a text, and then other elements
plain_text-append : (cs : List ℕ) (es : List Element)
    → pattern_text (plain_elements cs ++ es) ≡ pattern_text (plain_elements cs) ++ pattern_text es
plain_text-append [] es = refl
plain_text-append (c ∷ cs) es =
    ap (plain_then c) (plain_text-append cs es)
    ∙ plain_then-append (c == 42 || c == 63 || c == 91 || c == 92 || c == 34) c
    (pattern_text (plain_elements cs)) (pattern_text es)

-- the text of a star has one byte, and that of no star none
length-star : (b : Bool) → length (encode_utf8_all (pattern_text (star_if b))) ≡ star_count b
length-star true = ap (λ t. length (t ++ [])) (encode_ascii 42 (lit< tt))
length-star false = refl

-- a star before elements adds its byte to their text
star_first : (b : Bool) (es : List Element)
    → length (encode_utf8_all (pattern_text (star_if b ++ es)))
    ≡ star_count b + length (encode_utf8_all (pattern_text es))
star_first true es =
    let e = ap (λ t. length (t ++ encode_utf8_all (pattern_text es))) (encode_ascii 42 (lit< tt)) in
    omega (arith, e)
star_first false es = omega arith

-- the characters of a text, and stars beside them
pub starred_length : (before : Bool) (text : List ℕ) (behind : Bool)
    → length (encode_utf8_all (pattern_text (starred before text behind)))
    ≡ (length (encode_utf8_all (pattern_text (plain_elements (chars text)))) + star_count before)
    + star_count behind
starred_length before text behind =
    let plain = pattern_text (plain_elements (chars text)) in
    let star = pattern_text (star_if behind) in
    let first = star_first before (plain_elements (chars text) ++ star_if behind) in
    let parts = ap (λ t. length (encode_utf8_all t))
    (plain_text-append (chars text) (star_if behind)) ∙ ap length (encodes-append plain star)
    ∙ length-append (encode_utf8_all plain) (encode_utf8_all star) in
    omega (arith, first, parts, length-star behind)
