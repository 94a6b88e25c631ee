-- Where a part of a pattern ends, and the characters of a text.
use Rattle.std.proofs.Common.{◌≡◌, ◌≤◌, ◌<◌, ◌+◌, ℕ, List, [], ◌∷◌, ◌++◌, length, take, drop, get_or, set, refl, append_assoc, append-nil, take-append-drop}
use Rattle.std.proofs.lemmas.List.{drop_all, drop_more, take_more, take_more_set}
use Rattle.lq_value_pattern.specs.declared.element.Element.{Element}
use Rattle.lq_value_pattern.specs.declared.element.Element.TheVariants.{Star}
use Rattle.lq_value_pattern.specs.Matching.{IsSingle, AreSingle, IsAtStar}
use Rattle.lq_value_pattern.specs.Seek.{IsPiece}
use Rattle.lq_value_pattern.proofs.MatchingLemmas.{AreSingle-push}

-- ---- the next star

-- an element that is no star is single
single_other : (e : Element) → (e ≡ Star → ⊥) → IsSingle e
single_other Star h = absurd (h refl)
single_other e h = tt

-- one single element more
pub single_more : (es : List Element) (k : ℕ) (e : Element) → k < length es → e ≡ get_or es k e
    → (e ≡ Star → ⊥) → AreSingle (take k es) → AreSingle (take (k + 1) es)
single_more es k e h is other s =
    rw (take_more es k e h, ← is) (AreSingle-push (take k es) e s (single_other e other))

-- a star is next
pub star_at : (es : List Element) (k : ℕ) (e : Element) → k < length es → e ≡ get_or es k e
    → e ≡ Star → IsAtStar (drop k es)
star_at es k e h is star = rw (drop_more es k e h, ← is, star) tt

-- no element is left
pub star_end : (es : List Element) (k : ℕ) → length es ≤ k → IsAtStar (drop k es)
star_end es k h = rw (drop_all k es h) tt

-- a pattern that is split at its first star
pub piece_at : (es piece after : List Element) (k : ℕ) → piece ≡ take k es → after ≡ drop k es
    → AreSingle (take k es) → IsAtStar (drop k es) → IsPiece es piece after
piece_at es piece after k front back s star =
    record { elements = cc (take-append-drop k es); single = rw front s; star = rw back star }

-- ---- the characters of a text

-- one character more is copied
pub copied_char : (buffer : List ℕ) (count c : ℕ) (cs rest all : List ℕ) → count < length buffer
    → take count buffer ++ cs ≡ all → cs ≡ c ∷ rest
    → take (count + 1) (set buffer count c) ++ rest ≡ all
copied_char buffer count c cs rest all h so_far next =
    cc (take_more_set buffer count c h, append_assoc (take count buffer) (c ∷ []) rest)

-- all are copied
pub copied_all : (front cs all : List ℕ) → front ++ cs ≡ all → cs ≡ [] → front ≡ all
copied_all front cs all so_far none = cc (append-nil front)

-- for the copying of a text
pub ruleset copied = (copied_char, copied_all)

-- for the search of the next star
pub ruleset next_star = (single_more, star_at, star_end)
