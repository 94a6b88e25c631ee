-- The first index from which single elements take a character each is where a star before them
-- ends.
use Rattle.std.proofs.Common.{◌≡◌, ◌≤◌, ◌<◌, ◌+◌, ◌-◌, ℕ, zero, suc, List, [], ◌∷◌, ◌++◌, length, take, drop, true, false, refl, sym, ap, ◌∙◌, arith, inl, inr, take-append-drop, length-drop, length-take-le, drop-drop}
use Rattle.std.proofs.lemmas.Bool.{and_parts, and_right, both_ways, cases_lt, false_from_ne_true}
use Rattle.std.proofs.lemmas.List.{drop_all}
use Rattle.lq_value_pattern.specs.declared.element.Element.{Element}
use Rattle.lq_value_pattern.specs.Element.{takes}
use Rattle.lq_value_pattern.specs.Pattern.{is_fit, is_end, some_rest}
use Rattle.lq_value_pattern.specs.Matching.{AreSingle, TakesRun, Finds}
use Rattle.lq_value_pattern.specs.Seek.{take_front, TakeNoneBefore, IsFirstIndex, IsFirstIndexBefore, TakeNowhere, IsPiece}
use Rattle.lq_value_pattern.proofs.PatternLemmas.{some_found, some_at}
use Rattle.lq_value_pattern.proofs.MatchingLemmas.{fits_join, found_at_star, found_later, some_later}

-- ---- what single elements take

-- a text that is too short is not taken
short_not_taken : (es : List Element) (cs : List ℕ) → length cs < length es
    → take_front es cs ≡ false
short_not_taken [] cs h = absurd (omega arith)
short_not_taken (e ∷ es) [] h = refl
short_not_taken (e ∷ es) (c ∷ cs) h =
    and_right (takes e c) (take_front es cs) (short_not_taken es cs (omega arith))

-- elements that take the first characters are no more than these
take_length : (es : List Element) (cs : List ℕ) → take_front es cs ≡ true → length es ≤ length cs
take_length es cs h = grind (arith, short_not_taken es cs)

-- a text whose first characters are not taken is not fitted
not_taken : (piece es : List Element) (cs : List ℕ) → AreSingle piece
    → take_front piece cs ≡ false → is_fit (piece ++ es) cs ≡ false
not_taken piece es cs s h = cc (fits_join piece es cs s)

-- elements that take the first characters pass
passes_taken : (piece es : List Element) (cs : List ℕ) → AreSingle piece
    → take_front piece cs ≡ true → TakesRun (piece ++ es) cs es (drop (length piece) cs)
passes_taken piece es cs s h = record {
  piece = piece;
  run = take (length piece) cs;
  elements = refl;
  text = sym (take-append-drop (length piece) cs);
  same = sym (length-take-le (length piece) cs (take_length piece cs h));
  single = s;
  fit = cc (fits_join piece es cs s);
}

-- ---- the first index

-- places that don't fit are passed over
skipped : (es : List Element) (cs : List ℕ) (p : ℕ)
    → ((q : ℕ) → q < p → is_fit es (drop q cs) ≡ false) → p ≤ length cs
    → some_rest (is_fit es) cs ≡ some_rest (is_fit es) (drop p cs)
skipped es cs zero none h = refl
skipped es [] (suc p) none h = absurd (omega arith)
skipped es (c ∷ cs) (suc p) none h =
    some_later es c cs (none zero (omega arith))
    ∙ skipped es cs p (λ q lt. none (suc q) (omega arith)) (omega arith)

-- before a star the first index is enough
pub found_piece : (es piece after : List Element) (cs left : List ℕ) (index : ℕ)
    → IsPiece es piece after → (length after ≡ 0 → ⊥) → IsFirstIndex piece cs index
    → left ≡ drop (index + length piece) cs → Finds es cs after left
found_piece es piece [] cs left index is some p from = absurd (some refl)
found_piece es piece (e ∷ after) cs left index is some p from =
    let all = piece ++ e ∷ after in
    let there = drop index cs in
    let passes = passes_taken piece (e ∷ after) there is.single p.taken in
    let here = found_at_star all there e after (e ∷ after) (drop (length piece) there) refl
    (record { passes = passes; star = is.star }) in
    let same = skipped all cs index
    (λ q lt. not_taken piece (e ∷ after) (drop q cs) is.single (p.first q lt))
    (omega (arith, p.within)) in
    rw (is.elements, from) (rw (drop-drop (length piece) index cs) at (found_later all cs there
    (e ∷ after) (drop (length piece) there) same here))

-- where there is no index, none takes them, however near to the end
none_taken : (es : List Element) (cs : List ℕ) (q : ℕ) → TakeNowhere es cs
    → take_front es (drop q cs) ≡ false
none_taken [] cs q none = none 0 (omega arith)
none_taken (e ∷ es) cs q none = elim (cases_lt (length cs) (q + length (e ∷ es))) [
  | inl lt ↦ short_not_taken (e ∷ es) (drop q cs) (omega (arith, length-drop q cs))
  | inr le ↦ none q le
]

-- then the pattern fits no rest
pub nowhere_piece : (es piece after : List Element) (cs : List ℕ) → IsPiece es piece after
    → TakeNowhere piece cs → some_rest (is_fit es) cs ≡ false
nowhere_piece es piece after cs is none = rw is.elements (false_from_ne_true _ (λ t.
    let r = some_found (is_fit (piece ++ after)) cs t in
    let no = not_taken piece after (drop r.0 cs) is.single (none_taken piece cs r.0 none) in
    both_ways (is_fit (piece ++ after) (drop r.0 cs)) no r.2))

-- a text that is too short has none
pub short_piece : (es piece after : List Element) (cs : List ℕ) → IsPiece es piece after
    → length cs < length piece → some_rest (is_fit es) cs ≡ false
short_piece es piece after cs is h =
    nowhere_piece es piece after cs is (λ q le. absurd (omega arith))

-- ---- the last elements

-- the last elements are found at the end
pub found_end : (es piece after : List Element) (cs end left : List ℕ) (index : ℕ)
    → IsPiece es piece after → length after ≡ 0 → length piece ≤ length cs
    → end ≡ drop (length cs - length piece) cs → IsFirstIndex piece end index
    → left ≡ drop (length cs) cs → Finds es cs after left
found_end es piece [] cs end left index is none le at p from =
    let d = length cs - length piece in
    let long = length-drop d cs in
    let here : index ≡ 0 = omega (arith, p.within, ap length at, long) in
    let taken : take_front piece (drop d cs) ≡ true = rw (here, at) at p.taken in
    let past = drop_all (length piece) (drop d cs) (omega (arith, long)) in
    let fit : some_rest (is_fit es) cs ≡ true =
    some_at (is_fit es) cs d (cc (is.elements, fits_join piece [] (drop d cs) is.single)) in
    let done : is_fit [] left ≡ true = rw (from, drop_all (length cs) cs (omega arith)) refl in
    record { same = fit ∙ sym done; star = tt; shorter = omega arith }
found_end es piece (e ∷ after) cs end left index is none le at p from =
    absurd (omega (arith, none))

-- what is at its end is empty
end_empty : (cs : List ℕ) → is_end cs ≡ true → length cs ≡ 0
end_empty cs h = grind arith

-- the last elements are not found where they don't take the end
pub nowhere_end : (es piece after : List Element) (cs end : List ℕ) → IsPiece es piece after
    → length after ≡ 0 → length piece ≤ length cs
    → end ≡ drop (length cs - length piece) cs → TakeNowhere piece end
    → some_rest (is_fit es) cs ≡ false
nowhere_end es piece [] cs end is none le at nowhere =
    rw is.elements (false_from_ne_true _ (λ t.
    let r = some_found (is_fit (piece ++ [])) cs t in
    let rest = drop r.0 cs in
    let parts = and_parts (take_front piece rest) (is_end (drop (length piece) rest))
    (sym (fits_join piece [] rest is.single) ∙ r.2) in
    let here : r.0 ≡ length cs - length piece =
    omega (
      arith,
      take_length piece rest parts.0,
      end_empty (drop (length piece) rest) parts.1,
      length-drop (length piece) rest,
      length-drop r.0 cs,
      r.1,
    ) in
    let room : 0 + length piece ≤ length end =
    omega (arith, ap length at, length-drop (length cs - length piece) cs) in
    both_ways (take_front piece rest) (rw (here, ← at) (nowhere 0 room)) parts.0))
nowhere_end es piece (e ∷ after) cs end is none le at nowhere = absurd (omega (arith, none))

-- ---- indexes from an index on

-- no elements are taken at once
pub empty_first : (es : List Element) (cs : List ℕ) → length es ≡ 0 → IsFirstIndex es cs 0
empty_first [] cs h =
    record { within = omega arith; taken = refl; first = λ q lt. absurd (omega arith) }
empty_first (e ∷ es) cs h = absurd (omega arith)

-- an index behind others, seen from the text's start
at_index : (es : List Element) (cs : List ℕ) (start end q : ℕ) → TakeNoneBefore es cs start
    → TakeNoneBefore es (drop start cs) end → q < start + end → take_front es (drop q cs) ≡ false
at_index es cs start end q none more lt = elim (cases_lt q start) [
  | inl below ↦ none q below
  | inr above ↦
      let is : start + (q - start) ≡ q = omega arith in
      rw (drop-drop (q - start) start cs, is) at (more (q - start) (omega arith))
]

-- more places without one
pub none_more : (es : List Element) (cs rest : List ℕ) (start places : ℕ)
    → TakeNoneBefore es cs start → rest ≡ drop start cs → TakeNoneBefore es rest places
    → TakeNoneBefore es cs (start + places)
none_more es cs rest start places none from more =
    λ q lt. at_index es cs start places q none (rw from at more) lt

-- the first index of a rest is the first behind places without one
pub first_more : (es : List Element) (cs rest : List ℕ) (start places index : ℕ)
    → start ≤ length cs → TakeNoneBefore es cs start → rest ≡ drop start cs
    → IsFirstIndexBefore es rest places index → IsFirstIndex es cs (start + index)
first_more es cs rest start places index le none from at = record {
  within = omega (arith, at.is.within, ap length from, length-drop start cs);
  taken = cc (at.is.taken, drop-drop index start cs);
  first = λ q lt. at_index es cs start index q none (rw from at at.is.first) lt;
}

-- for the search in windows
pub ruleset indexes_more = (empty_first, none_more, first_more)

-- for the search of a part
pub ruleset pieces_found = (short_piece, nowhere_end, nowhere_piece, found_end, found_piece)
