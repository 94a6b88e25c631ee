-- Tables and the sets of their taken slots.
use Rattle.std.proofs.Common.{◌≡◌, ℕ, zero, suc, ◌<◌, List, [], ◌∷◌, length, Bool, true, false, Option, Some, None, refl, sym, ap, ◌∙◌, arith, add-one}
use Rattle.std.specs.Prelude.{slice_get, is_some}
use Rattle.lq_desk_sub.specs.SlotSet.{has}
use Rattle.lq_desk_sub.specs.SlotTable.{IsTable, first_free}
use Rattle.lq_desk_sub.specs.Visits.{Visits}

-- visits leave each slot free or taken
pub visits-table : {T S : Type 0} (allows : S → ℕ → T → Type 0) (did : S → ℕ → T → T → Type 0)
    (p : ℕ → Bool) (xs ys : List (Option T)) (s t : S) (taken : ℕ)
    → Visits allows did p xs ys s t → length ys ≡ 64 → IsTable taken xs → IsTable taken ys
visits-table {T} {S} allows did p xs ys s t taken v long table = record {
  wide = long;
  has_taken = λ i o found. by i o (slice_get xs i) (p i) refl refl found;
}
  where
    by : (i : ℕ) (o : Option T) (q : Option (Option T)) (b : Bool) → slice_get xs i ≡ q → p i ≡ b
        → slice_get ys i ≡ Some o → has taken i ≡ is_some o
    by i o None b was is found =
        let left = v.left i (λ x at. absurd (let no : ⊥ = cc in no)) in
        absurd (let no : ⊥ = cc in no)
    by i o (Some None) b was is found =
        let left = v.left i (λ x at. absurd (let no : ⊥ = cc in no)) in
        let same : o ≡ None = cc in rw same (table.has_taken i None was)
    by i o (Some (Some x)) false was is found =
        let left = v.left i (λ z at. is) in
        let same : o ≡ Some x = cc in rw same (table.has_taken i (Some x) was)
    by i o (Some (Some x)) true was is found =
        let d = v.visited i x is was in
        let at : slice_get ys i ≡ Some (Some d.0) = d.1 in
        let same : o ≡ Some d.0 = cc in rw same (table.has_taken i (Some x) was)

-- the first free slot
pub first_free-here : {T : Type 0} (p : ℕ → Bool) (xs : List (Option T)) (k : ℕ) → k < length xs
    → ((j : ℕ) (o : Option T) → slice_get xs j ≡ Some o → p j ≡ is_some o) → p k ≡ false
    → ((j : ℕ) → j < k → p j ≡ true) → k ≡ first_free xs
first_free-here p [] k lt takes here below = absurd (omega arith)
first_free-here p (None ∷ xs) zero lt takes here below = refl
first_free-here p (Some x ∷ xs) zero lt takes here below =
    absurd (let t = takes zero (Some x) refl in let no : ⊥ = cc in no)
first_free-here p (None ∷ xs) (suc k) lt takes here below =
    absurd (let t = takes zero None refl in let b = below zero (omega arith) in
    let no : ⊥ = cc in no)
first_free-here p (Some x ∷ xs) (suc k) lt takes here below =
    ap suc (first_free-here (λ j. p (suc j)) xs k (omega arith)
    (λ j o found. takes (suc j) o found) here (λ j l. below (suc j) (omega arith)))
    ∙ sym (add-one (first_free xs))

-- and where none is free
pub first_free-full : {T : Type 0} (p : ℕ → Bool) (xs : List (Option T))
    → ((j : ℕ) (o : Option T) → slice_get xs j ≡ Some o → p j ≡ is_some o)
    → ((j : ℕ) → j < length xs → p j ≡ true) → first_free xs ≡ length xs
first_free-full p [] takes full = refl
first_free-full p (None ∷ xs) takes full =
    absurd (let t = takes zero None refl in let b = full zero (omega arith) in
    let no : ⊥ = cc in no)
first_free-full p (Some x ∷ xs) takes full =
    add-one (first_free xs) ∙ ap suc (first_free-full (λ j. p (suc j)) xs
    (λ j o found. takes (suc j) o found) (λ j l. full (suc j) (omega arith)))
