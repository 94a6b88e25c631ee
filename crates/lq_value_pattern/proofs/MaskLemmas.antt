-- What the bits of masks say of elements and of the ends of elements.
use Rattle.std.proofs.Common.{◌≡◌, ◌<◌, ◌+◌, ◌*◌, ◌^◌, ◌%◌, ◌&&◌, ◌||◌, ◌==◌, ℕ, zero, suc, not, min, List, [], ◌∷◌, length, take, drop, slice_index, bit_and, bit_or, bit_xor, Bool, true, refl, ◌∙◌, arith, take-add, take-suc, take_all, length-take-le, drop-drop, w32}
use Rattle.std.specs.Int.{bit_at}
use Rattle.std.proofs.Math.Bool.{and-true, or-false}
use Rattle.std.proofs.lemmas.Nat.{shl_whole}
use Rattle.std.proofs.lemmas.Nat.Bits.{bit_at_and, bit_at_xor, bit_at-pow_same, bit_at-pow_other, bit_at_set_same, bit_at_set_other, bit_at-lt, bit_at_cat_low, bit_at_cat_high}
use Rattle.std.proofs.lemmas.List.{drop_more}
use Rattle.std.proofs.lemmas.List.Folds.{list_any-append}
use Rattle.std.proofs.lemmas.Bool.Decides.{nat_tests}
use Rattle.lq_value_pattern.specs.declared.element.Item.{Item}
use Rattle.lq_value_pattern.specs.declared.element.Element.{Element}
use Rattle.lq_value_pattern.specs.declared.element.Element.TheVariants.{Star, Any}
use Rattle.lq_value_pattern.specs.Element.{has, set_has, takes}
use Rattle.lq_value_pattern.specs.Seek.{kept, take_front}
use Rattle.lq_value_pattern.specs.Masks.{takes_at, AreBitsOff, AreEnds, AreFlipped, AreNextEnds, ArePut, IsBitTaken, IsFlipped, IsPair, IsPut}
use Rattle.lq_value_pattern.proofs.FlagLemmas.{front_join}

-- ---- one bit

-- a bit that is put
pub put_hit : (j mask : ℕ) → j < 32 → IsPut true j mask (bit_or mask (1 * 2 ^ j % 2 ^ 32))
put_hit j mask h = record {
  at = bit_at_set_same w32 mask j h;
  others = λ i other. bit_at_set_other w32 mask j h i other;
}

-- a bit that is flipped
pub flip_is : (j mask : ℕ) → j < 32 → IsFlipped j mask (bit_xor mask (1 * 2 ^ j % 2 ^ 32))
flip_is j mask h =
    let one : 1 * 2 ^ j % 2 ^ 32 ≡ 2 ^ j =
    shl_whole 1 1 j 32 (omega arith) (omega arith) ∙ omega arith in
    let small = bit_at-lt mask in
    rw one (record {
      at = omega (arith, bit_at_xor mask (2 ^ j) j, bit_at-pow_same j, small j);
      others = λ i other.
          omega (arith, bit_at_xor mask (2 ^ j) i, bit_at-pow_other j i other, small i);
    })

-- ---- the bits of an element

-- the bits of more items
pub put_join : (items : List Item) (j : ℕ) (cs old now new : List ℕ) (i n : ℕ)
    → ArePut (set_has (take i items)) j cs old now
    → ArePut (set_has (take n (drop i items))) j cs now new
    → ArePut (set_has (take (i + n) items)) j cs old new
put_join items j cs old now new i n so_far step = λ x lt.
    let c = slice_index cs x in
    let either = list_any-append (λ item. has item c) (take i items) (take n (drop i items)) in
    record {
      at = grind (arith, (so_far x lt).at, (step x lt).at, take-add i n items, either);
      others = λ k other. (step x lt).others k other ∙ (so_far x lt).others k other;
    }

-- the bits of the first item
pub one_put : (items : List Item) (item : Item) (j : ℕ) (cs old new : List ℕ)
    → take 1 items ≡ item ∷ [] → ArePut (has item) j cs old new
    → ArePut (set_has (take 1 items)) j cs old new
one_put items item j cs old new one put = rw one (simp or-false put)

-- the bits of the first two
pub pair_put : (items : List Item) (c d j : ℕ) (cs old new : List ℕ)
    → IsPair items c d → ArePut (λ e. c == e || d == e) j cs old new
    → ArePut (set_has (take 2 items)) j cs old new
pair_put items c d j cs old new pair put = rw pair.are (simp or-false put)

-- then the bits say what the test says
pub marked_taken : (test : ℕ → Bool) (j : ℕ) (cs old new : List ℕ) → length old ≡ length cs
    → AreBitsOff j old → ArePut test j cs old new → IsBitTaken test j cs old new
marked_taken test j cs old new same off are = record {
  at = λ x lt. grind (arith, (are x lt).at, off x (omega (arith, same)));
  others = λ x i lt other. (are x lt).others i other;
}

-- bits that are flipped say the contrary
pub flipped_taken : (test : ℕ → Bool) (j : ℕ) (cs old now new : List ℕ)
    → length now ≡ length cs → IsBitTaken test j cs old now → AreFlipped j now new
    → IsBitTaken (λ c. not (test c)) j cs old new
flipped_taken test j cs old now new same are flips = record {
  at = λ x lt. grind (arith, (flips x (omega (arith, same))).at, are.at x lt);
  others = λ x i lt other.
      (flips x (omega (arith, same))).others i other ∙ are.others x i lt other;
}

-- so the bits of any one character are all put
pub any_taken : (j : ℕ) (cs old new : List ℕ) → length old ≡ length cs
    → AreBitsOff j old → AreFlipped j old new → IsBitTaken (takes Any) j cs old new
any_taken j cs old new same off flips = flipped_taken (takes Star) j cs old old new same
    (record { at = λ x lt. off x (omega (arith, same)); others = λ x i lt other. refl }) flips

-- ---- ends

-- one element more takes the character at its index of the text
front_at : (es : List Element) (cs : List ℕ) (j k i : ℕ) → j < length es → k + j ≡ i
    → i < length cs → take_front (take (suc j) es) (drop k cs)
    ≡ (take_front (take j es) (drop k cs) && takes_at es j (slice_index cs i))
front_at es cs j k i h is lt =
    let rest : drop (length (take j es)) (drop k cs) ≡ slice_index cs i ∷ drop (i + 1) cs =
    cc (length-take-le j es (omega arith), drop-drop j k cs, drop_more cs i 0 lt) in
    rw (take-suc es j Star h, front_join (take j es) _ (drop k cs), rest) (simp and-true)

-- a mask of which each bit is 1 where the bit before of the ends is, and where that of the mask is
pub next_is : (ends mask : ℕ) → AreNextEnds ends mask (bit_and (ends * 2 + 1) mask)
next_is ends mask =
    let both = bit_at_and (ends * 2 + 1) mask in
    let low : bit_at (ends * 2 + 1) 0 ≡ 1 = bit_at_cat_low ends 1 1 zero (omega arith) in
    record {
      first = omega (arith, both 0, low, bit_at-lt mask 0);
      later = λ j.
          let high = bit_at_cat_high ends 1 1 (suc j) (omega arith) (omega arith) in
          grind (arith, both (suc j), high);
    }

-- two bits and one
kept_min : (a b : Bool) → min (kept a 1) (kept b 1) ≡ kept (a && b) 1
kept_min a b = grind arith

-- the ends after one character more
pub ends_more : (es : List Element) (cs : List ℕ) (ends mask next i : ℕ) → i < length cs
    → AreEnds es cs i ends
    → ((j : ℕ) → j < length es → bit_at mask j ≡ kept (takes_at es j (slice_index cs i)) 1)
    → AreNextEnds ends mask next → AreEnds es cs (i + 1) next
ends_more es cs ends mask next i lt are bits step = by
  where
    by : AreEnds es cs (i + 1) next
    by zero k h is =
        cc (step.first, bits 0 h, front_at es cs 0 k i h (omega (arith, is)) lt)
    by (suc j) k h is =
        let front = take_front (take (suc j) es) (drop k cs) in
        let both = kept_min front (takes_at es (suc j) (slice_index cs i)) in
        let before = are j k (omega arith) (omega (arith, is)) in
        let more = front_at es cs (suc j) k i h (omega (arith, is)) lt in
        cc (step.later j, bits (suc j) h, before, both, more)

-- the last bit says whether all elements took the last characters
pub ends_all : (es : List Element) (cs : List ℕ) (ends last i k : ℕ) → last + 1 ≡ length es
    → k + last ≡ i → AreEnds es cs (i + 1) ends
    → (1 == bit_at ends last) ≡ take_front es (drop k cs)
ends_all es cs ends last i k all is are =
    let whole : take (suc last) es ≡ es = take_all (suc last) es (omega (arith, all)) in
    let bit : bit_at ends last ≡ kept (take_front es (drop k cs)) 1 =
    rw whole at (are last k (omega arith) (omega arith)) in
    grind (arith, nat_tests)
