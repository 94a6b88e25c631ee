-- What flags of indexes say: which elements take the characters from the flag's index on.
use Rattle.std.proofs.Common.{◌≡◌, ◌≤◌, ◌<◌, ◌+◌, ◌&&◌, ℕ, List, [], ◌∷◌, ◌++◌, length, take, drop, replicate, slice_index, false, refl, inl, inr, arith, take-add, take_all, take-append-drop, length-take-le, drop-drop}
use Rattle.std.specs.List.{between}
use Rattle.std.proofs.lemmas.Bool.{cases_lt}
use Rattle.std.proofs.lemmas.List.{take-replicate, get_or-replicate, length-replicate}
use Rattle.lq_value_pattern.specs.declared.element.Element.{Element}
use Rattle.lq_value_pattern.specs.Seek.{take_front, AreKeptBy, AreOn, AreFlags, AreOff, IsNextOn, TakeNoneBefore, IsFirstIndexBefore}

-- more elements take more characters
pub front_join : (front back : List Element) (cs : List ℕ) → take_front (front ++ back) cs
    ≡ (take_front front cs && take_front back (drop (length front) cs))
front_join [] back cs = refl
front_join (e ∷ front) back [] = refl
front_join (e ∷ front) back (c ∷ cs) = grind (arith, front_join front back cs)

-- elements take nothing where fewer of them don't
front_fewer : (es : List Element) (cs : List ℕ) (k : ℕ) → take_front (take k es) cs ≡ false
    → take_front es cs ≡ false
front_fewer es cs k h = cc (front_join (take k es) (drop k es) cs, take-append-drop k es)

-- flags that are on are those of no elements
pub flags_on : (es : List Element) (cs flags : List ℕ) → AreOn flags
    → AreFlags (take 0 es) cs flags
flags_on es cs flags on = λ k lt. on k lt

-- a number of flags that are on
pub flags_made : (n places : ℕ) → places ≤ n → AreOn (take places (replicate n 1))
flags_made n places le =
    rw (take-replicate {X = ℕ} places n 1 le)
    (λ k lt. get_or-replicate places k 1 0 (omega (arith, length-replicate {A = ℕ} places 1)))

-- the elements of a run after others take the characters after those of the others
front_run : (es : List Element) (cs left : List ℕ) (k n j : ℕ) → k + n ≤ length es
    → left ≡ drop k cs → take_front (take (k + n) es) (drop j cs)
    ≡ (take_front (take k es) (drop j cs) && take_front (between k (k + n) es) (drop j left))
front_run es cs left k n j le from =
    grind (
      arith,
      take-add k n es,
      front_join (take k es) (between k (k + n) es) (drop j cs),
      length-take-le k es (omega arith),
      drop-drop k j cs,
      drop-drop j k cs,
    )

-- flags that are out stay out, up to the next that is on
pub off_more : (es : List Element) (cs old new : List ℕ) (first next : ℕ)
    → first ≤ length old → AreOff old 0 first → AreKeptBy es cs old new
    → IsNextOn new first next → AreOff new 0 next
off_more es cs old new first next le off keeps is = λ k from to. elim (cases_lt k first) [
  | inl below ↦ grind (arith, keeps k (omega arith), off k from below)
  | inr above ↦ is.off k above to
]

-- the flags of the elements of a run more, and those that are out
pub run_more : (es : List Element) (cs left old new : List ℕ) (k n first next : ℕ)
    → k + n ≤ length es → left ≡ drop k cs → length new ≡ length old → first ≤ length old
    → AreFlags (take k es) cs old → AreOff old 0 first
    → AreKeptBy (between k (k + n) es) left old new → IsNextOn new first next
    → AreFlags (take (k + n) es) cs new × AreOff new 0 next
run_more es cs left old new k n first next le from same within flags off keeps is = (
  λ j lt.
      let was = flags j (omega arith) in
      let stays = keeps j (omega arith) in
      grind (arith, front_run es cs left k n j le from),
  off_more (between k (k + n) es) left old new first next within off keeps is,
)

-- where all flags are out there is no index
pub none_flagged : (es : List Element) (cs flags : List ℕ) (k places : ℕ)
    → AreFlags (take k es) cs flags → AreOff flags 0 places → places ≤ length flags
    → TakeNoneBefore es cs places
none_flagged es cs flags k places are off le = λ q lt.
    front_fewer es (drop q cs) k (grind (arith, are q (omega arith), off q (omega arith) lt))

-- the first flag that is on has the first index
pub first_flagged : (es : List Element) (cs flags : List ℕ) (k first places : ℕ)
    → length es ≤ k → AreFlags (take k es) cs flags → AreOff flags 0 first → first < places
    → places ≤ length flags → (slice_index flags first ≡ 0 → ⊥)
    → length es + places ≤ length cs + 1 → IsFirstIndexBefore es cs places first
first_flagged es cs flags k first places all are off lt le on room = record {
  before = lt;
  is = record {
    within = omega arith;
    taken = grind (arith, take_all k es all, are first (omega arith));
    first = none_flagged es cs flags k first are off (omega arith);
  };
}

-- for the search by flags
pub ruleset flag_steps = (flags_on, off_more, none_flagged, first_flagged)
