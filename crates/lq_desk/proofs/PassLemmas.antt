-- What visits of the slots of a set do to all slots.
use Rattle.std.proofs.Common.{◌≡◌, ◌∙◌, ℕ, suc, List, [], ◌∷◌, map, Bool, true, false, Option, Some, None, refl, sym, ap, inl, inr}
use Rattle.std.specs.Prelude.{slice_get, ◌⊎◌}
use Rattle.std.specs.Option.{option_map}
use Rattle.std.proofs.lemmas.Option.{slice_get-map}
use Rattle.lq_desk_sub.specs.Visits.{Visits}
use Rattle.lq_desk.proofs.ListLemmas.{map-slots}

-- what is found at each place is the same
same-slots : {A : Type 0} (xs ys : List A) → ((i : ℕ) → slice_get xs i ≡ slice_get ys i)
    → xs ≡ ys
same-slots [] [] same = refl
same-slots [] (y ∷ ys) same = let h = same 0 in cc
same-slots (x ∷ xs) [] same = let h = same 0 in cc
same-slots (x ∷ xs) (y ∷ ys) same =
    let h = same 0 in
    cc (same-slots xs ys (λ i. same (suc i)))

module _ {T S : Type 0} (allows : S → ℕ → T → Type 0) (did : S → ℕ → T → T → Type 0)
    (p : ℕ → Bool) (xs ys : List (Option T)) (s t : S) (v : Visits allows did p xs ys s t)
  where
    -- nothing is visited at this place
    abbrev IsLeft : ℕ → Type 0
    IsLeft i = (x : T) → slice_get xs i ≡ Some (Some x) → p i ≡ false

    -- a slot was visited
    abbrev IsVisited : ℕ → Type 0
    IsVisited i = (x : T) × (y : T) × (slice_get xs i ≡ Some (Some x))
        × (slice_get ys i ≡ Some (Some y)) × (p i ≡ true) × did t i x y

    -- each place is one or the other
    visits-at : (i : ℕ) → IsVisited i ⊎ IsLeft i
    visits-at i = by (slice_get xs i) refl (p i) refl
      where
        by : (o : Option (Option T)) → slice_get xs i ≡ o → (b : Bool) → p i ≡ b
            → IsVisited i ⊎ IsLeft i
        by (Some (Some x)) was true is = let d = v.visited i x is was in
            inl (x, d.0, was, d.1, is, d.2)
        by (Some (Some x)) was false is = inr (λ z h. is)
        by (Some None) was b is = inr (λ z h. cc)
        by None was b is = inr (λ z h. cc)

    -- what is in a slot afterwards was visited, or is as it was
    pub visits-from : (i : ℕ) (y : T) → slice_get ys i ≡ Some (Some y)
        → (x : T) × (slice_get xs i ≡ Some (Some x))
        × (((p i ≡ true) × did t i x y) ⊎ ((p i ≡ false) × (x ≡ y)))
    visits-from i y found = elim (visits-at i) [
      | inl d ↦
          let same : d.1 ≡ y = (let e = d.3 in cc) in
          (d.0, d.2, inl (d.4, rw same at d.5))
      | inr left ↦
          let was = sym (v.left i left) ∙ found in
          (y, was, inr (left y was, refl))
    ]

    -- where each slot ends as a function gives what a view shows of it, that is all that was done
    pub visits-map : {K : Type 0} (view : T → K) (f : K → K)
        → ((i : ℕ) (x y : T) → slice_get xs i ≡ Some (Some x) → p i ≡ true → did t i x y
        → view y ≡ f (view x))
        → ((i : ℕ) (x : T) → slice_get xs i ≡ Some (Some x) → p i ≡ false → view x ≡ f (view x))
        → map (option_map view) ys ≡ map (option_map f) (map (option_map view) xs)
    visits-map {K} view f done idle = same-slots _ _ (λ i. simp slice_get-map (elim (visits-at i) [
      | inl d ↦ rw (d.2, d.3)
          (ap (λ (k : K). Some (Some k)) (done i d.0 d.1 d.2 d.4 d.5))
      | inr left ↦ rw (v.left i left) (stays i (slice_get xs i) refl left)
    ]))
      where
        stays : (i : ℕ) (o : Option (Option T)) → slice_get xs i ≡ o → IsLeft i
            → option_map (option_map view) o
            ≡ option_map (option_map f) (option_map (option_map view) o)
        stays i None was left = refl
        stays i (Some None) was left = refl
        stays i (Some (Some x)) was left =
            ap (λ (k : K). Some (Some k)) (idle i x was (left x was))

    -- visits that leave what a view shows of each slot
    pub visits-alike : {K : Type 0} (view : T → K)
        → ((i : ℕ) (x y : T) → did t i x y → view y ≡ view x)
        → map (option_map view) ys ≡ map (option_map view) xs
    visits-alike view done = visits-map view (λ k. k) (λ i x y was is d. done i x y d)
        (λ i x was is. refl) ∙ map-slots view (λ k. k) view (λ x. refl) xs
