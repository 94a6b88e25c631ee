-- One byte more of white space, of a word and of a quoted text.
use Rattle.std.proofs.Common.{◌≡◌, ◌<◌, ◌≤◌, ◌+◌, ℕ, suc, true, false, List, ◌∷◌, length, get_or, drop, Option, Some, None, refl, ap, arith, add-one, drop-cons}
use Rattle.std.specs.Prelude.{option_map, ◌==◌}
use Rattle.std.proofs.lemmas.List.{drop_all}
use Rattle.lq_predicate_formula.specs.Bytes.{is_space, ends_word}
use Rattle.lq_predicate_formula.specs.Lexing.{spaces, word_bytes, quoted_bytes}

-- a text from an offset on is the byte there, and then the text from the next offset on
pub at_byte : (bs : List ℕ) (n : ℕ) → n < length bs → drop n bs ≡ get_or bs n 0 ∷ drop (n + 1) bs
at_byte bs n h = rw (add-one, drop-cons bs n 0)

-- white space counts one more than what follows it
pub spaces_more : (bs : List ℕ) (n : ℕ) → n < length bs → is_space (get_or bs n 0) ≡ true
    → spaces (drop n bs) ≡ suc (spaces (drop (n + 1) bs))
spaces_more bs n h e = rw (at_byte bs n h, e)

-- a byte that ends words ends the count of a word's bytes
pub word_end : (bs : List ℕ) (n : ℕ) → n < length bs → (get_or bs n 0 == 92) ≡ false
    → ends_word (get_or bs n 0) ≡ true → word_bytes false (drop n bs) ≡ 0
word_end bs n h e f = rw (at_byte bs n h, e, f)

-- a byte that is no `\` and ends no word counts one more than what follows it
pub word_more : (bs : List ℕ) (n : ℕ)
    → n < length bs → (get_or bs n 0 == 92) ≡ false → ends_word (get_or bs n 0) ≡ false
    → word_bytes false (drop n bs) ≡ suc (word_bytes false (drop (n + 1) bs))
word_more bs n h e f = rw (at_byte bs n h, e, f)

-- a `\` at the end of the text is no part of a word
pub word_cut : (bs : List ℕ) (n : ℕ) → n < length bs → length bs ≤ n + 1
    → (get_or bs n 0 == 92) ≡ true → word_bytes false (drop n bs) ≡ 0
word_cut bs n h k e = rw (at_byte bs n h, e, drop_all (n + 1) bs k)

-- `\` and the byte after it count two more than what follows them
pub word_escaped : (bs : List ℕ) (n : ℕ) → n + 1 < length bs → (get_or bs n 0 == 92) ≡ true
    → word_bytes false (drop n bs) ≡ suc (suc (word_bytes false (drop (n + 2) bs)))
word_escaped bs n k e =
    let two : n + 1 + 1 ≡ n + 2 = omega arith in
    rw (at_byte bs n (omega arith), e, at_byte bs (n + 1) k, two)

-- n more bytes on the way
abbrev pub added : ℕ → Option ℕ → Option ℕ
added n o = option_map (λ k. n + k) o

-- one more in the count is one more in what was counted before it
added_suc : (n : ℕ) (o : Option ℕ) → added n (option_map (λ k. suc k) o) ≡ added (n + 1) o
added_suc n None = refl
added_suc n (Some k) = let e : n + suc k ≡ n + 1 + k = omega arith in ap Some e

-- two more in the count are two more in what was counted before it
added_two : (n : ℕ) (o : Option ℕ) → added n (option_map (λ k. suc (suc k)) o) ≡ added (n + 2) o
added_two n None = refl
added_two n (Some k) = let e : n + suc (suc k) ≡ n + 2 + k = omega arith in ap Some e

-- nothing counted before leaves the count as it is
pub added_none : (o : Option ℕ) → added 0 o ≡ o
added_none None = refl
added_none (Some k) = let e : 0 + k ≡ k = omega arith in ap Some e

-- a quoted text that ends with `\` is not closed
pub quoted_cut : (m : ℕ) (bs : List ℕ) (n : ℕ) → n < length bs → length bs ≤ n + 1
    → (get_or bs n 0 == 92) ≡ true → added n (quoted_bytes m false (drop n bs)) ≡ None
quoted_cut m bs n h k e = rw (at_byte bs n h, e, drop_all (n + 1) bs k)

-- `\` and the byte after it count two more than the quoted text that follows them
pub quoted_escaped : (m : ℕ) (bs : List ℕ) (n : ℕ)
    → n + 1 < length bs → (get_or bs n 0 == 92) ≡ true → added n (quoted_bytes m false (drop n bs))
    ≡ added (n + 2) (quoted_bytes m false (drop (n + 2) bs))
quoted_escaped m bs n k e =
    let two : n + 1 + 1 ≡ n + 2 = omega arith in
    rw (at_byte bs n (omega arith), e, at_byte bs (n + 1) k, two) (added_two n _)

-- the mark itself ends a quoted text
pub quoted_end : (m : ℕ) (bs : List ℕ) (n : ℕ) → n < length bs → (get_or bs n 0 == 92) ≡ false
    → (get_or bs n 0 == m) ≡ true → added n (quoted_bytes m false (drop n bs)) ≡ Some n
quoted_end m bs n h e f =
    let same : n + 0 ≡ n = omega arith in
    rw (at_byte bs n h, e, f) (ap Some same)

-- a byte that is no `\` and no mark counts one more than the quoted text that follows it
pub quoted_more : (m : ℕ) (bs : List ℕ) (n : ℕ) → n < length bs → (get_or bs n 0 == 92) ≡ false
    → (get_or bs n 0 == m) ≡ false → added n (quoted_bytes m false (drop n bs))
    ≡ added (n + 1) (quoted_bytes m false (drop (n + 1) bs))
quoted_more m bs n h e f = rw (at_byte bs n h, e, f) (added_suc n _)
