-- Sets of slots, by the bits of a word.
use Rattle.std.proofs.Common.{◌≡◌, ◌≢◌, ℕ, zero, suc, ◌<◌, ◌+◌, ◌^◌, ◌%◌, ◌*◌, ◌-◌, ◌/◌, true, false, ap, sym, ◌∙◌, arith, inl, inr}
use Rattle.std.specs.Prelude.{◌==◌, ◌&&◌, ◌||◌, bit_and, bit_or}
use Rattle.std.specs.Int.{bit_at, bit_not, trailing_ones, trailing_zeros, w64}
use Rattle.std.proofs.lemmas.Bool.{cases_lt}
use Rattle.std.proofs.lemmas.Bool.Decides.{nat_tests}
use Rattle.std.proofs.lemmas.Nat.{and_le_r}
use Rattle.std.proofs.lemmas.Nat.Bits.{bit_at-lt, bit_at-zero, bit_at-suc, bit_at_lowest, bit_at_and, bit_at_or, bit_at_set_same, bit_at_set_other, bit_at_clear_same, bit_at_clear_other, bit_at_not, bit_at-trailing_ones, bit_at-trailing_zeros}
use Rattle.lq_desk_sub.specs.SlotSet.{has, IsEmpty, IsTakenOut}

-- the word without bits
pub has-none : IsEmpty (has 0)
unfolding has
has-none i = let z = bit_at-zero i in grind (arith, nat_tests)

-- the test of a bit
pub has-is : (w i : ℕ) → i < 64 → has w i ≡ (bit_at w i == 1)
unfolding has
has-is w i lt = grind (arith, nat_tests)

-- words with the same bit at a place
has-same : (v w i : ℕ) → (i < 64 → bit_at v i ≡ bit_at w i) → has v i ≡ has w i
unfolding has
has-same v w i same = elim (cases_lt i 64) [
  | inl low ↦ let at = same low in grind (arith, nat_tests)
  | inr high ↦ grind (arith, nat_tests)
]

-- the bit of a place is set
pub has-set : (w k : ℕ) → k < 64 → has (bit_or w (1 * 2 ^ k % 2 ^ 64)) k ≡ true
unfolding has
has-set w k lt = let here = bit_at_set_same w64 w k lt in grind (arith, nat_tests)

pub has-set_other : (w k : ℕ) → k < 64 → (i : ℕ) → i ≢ k
    → has (bit_or w (1 * 2 ^ k % 2 ^ 64)) i ≡ has w i
has-set_other w k lt i ne = has-same _ w i (λ low. bit_at_set_other w64 w k lt i ne)

-- or it is cleared
pub has-clear : (w k : ℕ) → k < 64
    → has (bit_and w (bit_not w64 (1 * 2 ^ k % 2 ^ 64))) k ≡ false
unfolding has
has-clear w k lt = let here = bit_at_clear_same w64 w k lt in grind (arith, nat_tests)

pub has-clear_other : (w k : ℕ) → k < 64 → (i : ℕ) → i ≢ k
    → has (bit_and w (bit_not w64 (1 * 2 ^ k % 2 ^ 64))) i ≡ has w i
has-clear_other w k lt i ne = has-same _ w i (λ low. bit_at_clear_other w64 w k lt i low ne)

-- two words together
pub has-union : (v w i : ℕ) → has (bit_or v w) i ≡ (has v i || has w i)
unfolding has
has-union v w i =
    let or = bit_at_or v w i in
    let a = bit_at-lt v i in
    let b = bit_at-lt w i in
    grind (arith, nat_tests)

-- what two words share
pub has-both : (v w i : ℕ) → has (bit_and v w) i ≡ (has v i && has w i)
unfolding has
has-both v w i =
    let both = bit_at_and v w i in
    let a = bit_at-lt v i in
    let b = bit_at-lt w i in
    grind (arith, nat_tests)

-- the word with all bits
pub has-all : (i : ℕ) → i < 64 → has 18446744073709551615 i ≡ true
unfolding has
has-all i lt =
    let one : bit_at 18446744073709551615 i ≡ 1 - bit_at 0 i =
    bit_at_not w64 0 i (omega arith) lt in
    let z = bit_at-zero i in
    grind (arith, nat_tests)

-- the lowest place that any other word lacks, and those below it
pub has-outside : (w : ℕ) → w + 1 < 2 ^ 64
    → (has w (trailing_ones w64 w) ≡ false)
    × ((i : ℕ) → i < trailing_ones w64 w → has w i ≡ true)
unfolding has
has-outside w below =
    let z = bit_at-trailing_ones w64 w below in
    let lt = z.0 in
    let clear = z.1 in (
      grind (arith, nat_tests),
      λ i low. let set = z.2 i low in grind (arith, nat_tests),
    )

-- above its lowest, the bits of a number are those of its half
bit_at-half : (n m : ℕ) → n / 2 ≡ m → (i : ℕ) → bit_at n (suc i) ≡ bit_at m i
bit_at-half n m half i = bit_at-suc n i ∙ ap (λ k. bit_at k i) half

-- one less than a number lacks its lowest bit
lowest-less_one : (t n : ℕ) → bit_at n t ≡ 1 → ((i : ℕ) → i < t → bit_at n i ≡ 0)
    → bit_at (n - 1) t ≡ 0
lowest-less_one zero n set low = omega (arith, bit_at_lowest n, bit_at_lowest (n - 1))
lowest-less_one (suc t) n set low =
    let even : n % 2 ≡ 0 = sym (bit_at_lowest n) ∙ low 0 (omega arith) in
    bit_at-half (n - 1) (n / 2 - 1) (omega arith) t
    ∙ lowest-less_one t (n / 2) (sym (bit_at-suc n t) ∙ set)
    (λ i lt. sym (bit_at-suc n i) ∙ low (suc i) (omega arith))

-- and has those above it
above-less_one : (t n : ℕ) → bit_at n t ≡ 1 → ((i : ℕ) → i < t → bit_at n i ≡ 0)
    → (i : ℕ) → t < i → bit_at (n - 1) i ≡ bit_at n i
above-less_one t n set low zero lt = absurd (omega arith)
above-less_one zero n set low (suc i) lt =
    let odd = bit_at_lowest n in
    bit_at-half (n - 1) (n / 2) (omega arith) i ∙ sym (bit_at-suc n i)
above-less_one (suc t) n set low (suc i) lt =
    let even : n % 2 ≡ 0 = sym (bit_at_lowest n) ∙ low 0 (omega arith) in
    bit_at-half (n - 1) (n / 2 - 1) (omega arith) i
    ∙ above-less_one t (n / 2) (sym (bit_at-suc n t) ∙ set)
    (λ j lt. sym (bit_at-suc n j) ∙ low (suc j) (omega arith)) i (omega arith)
    ∙ sym (bit_at-suc n i)

-- the lowest bit is cleared
pub has-pop_lowest : (w : ℕ) → 0 < w → w < 2 ^ 64
    → IsTakenOut w (trailing_zeros w64 w) (bit_and w (w - 1))
unfolding has
has-pop_lowest w pos fits =
    let z = bit_at-trailing_zeros w64 w pos fits in
    let p = trailing_zeros w64 w in
    let gone : bit_at (bit_and w (w - 1)) p ≡ 0 =
    omega (arith, bit_at_and w (w - 1) p, lowest-less_one p w z.1 z.2) in
    let above = above-less_one p w z.1 z.2 in
    record {
      was = let lt = z.0 in let set = z.1 in grind (arith, nat_tests);
      gone = grind (arith, nat_tests);
      others = λ i ne. has-same _ w i (λ low. elim (cases_lt i p) [
        | inl lt ↦ omega (arith, bit_at_and w (w - 1) i, z.2 i lt)
        | inr ge ↦ omega (arith, bit_at_and w (w - 1) i, above i (omega (arith, ne)))
      ]);
      fewer = omega (arith, and_le_r w (w - 1));
    }
