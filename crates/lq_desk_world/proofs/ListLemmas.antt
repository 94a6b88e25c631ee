-- Lists: their fronts and their places.
use Rattle.std.proofs.Common.{◌≡◌, ◌≢◌, ℕ, zero, suc, ◌+◌, ◌≤◌, List, [], ◌∷◌, ◌++◌, refl, ap, take, length, arith, add-one, Some, map}
use Rattle.std.specs.Prelude.{Bool, true, false, slice_get, slice_set}

-- ---- places

-- at a place that is set stands what was set
pub slice_get-set_here : {A : Type 0} (xs : List A) (i : ℕ) (x y : A) → slice_get xs i ≡ Some x
    → slice_get (slice_set xs i y) i ≡ Some y
slice_get-set_here [] i x y h = cc
slice_get-set_here (z ∷ xs) zero x y h = refl
slice_get-set_here (z ∷ xs) (suc i) x y h = slice_get-set_here xs i x y h

-- at another place stands what stood there
pub slice_get-set_other : {A : Type 0} (xs : List A) (i j : ℕ) (y : A) → i ≢ j
    → slice_get (slice_set xs j y) i ≡ slice_get xs i
slice_get-set_other [] i j y ne = refl
slice_get-set_other (z ∷ xs) zero zero y ne = absurd (ne refl)
slice_get-set_other (z ∷ xs) zero (suc j) y ne = refl
slice_get-set_other (z ∷ xs) (suc i) zero y ne = refl
slice_get-set_other (z ∷ xs) (suc i) (suc j) y ne =
    slice_get-set_other xs i j y (λ e. ne (ap suc e))

-- a map leaves a list in which a member is set to one that it maps the same
pub map-set_same : {A B : Type 0} (f : A → B) (xs : List A) (i : ℕ) (x y : A)
    → slice_get xs i ≡ Some x → f y ≡ f x → map f (slice_set xs i y) ≡ map f xs
map-set_same f [] i x y h same = refl
map-set_same f (z ∷ xs) zero x y h same = cc
map-set_same f (z ∷ xs) (suc i) x y h same =
    ap (λ zs. f z ∷ zs) (map-set_same f xs i x y h same)

-- a place that is set to what stands there leaves the list
pub slice_set-same : {A : Type 0} (xs : List A) (i : ℕ) (x : A) → slice_get xs i ≡ Some x
    → slice_set xs i x ≡ xs
slice_set-same [] i x h = refl
slice_set-same (y ∷ xs) zero x h = cc
slice_set-same (y ∷ xs) (suc i) x h = ap (λ ys. y ∷ ys) (slice_set-same xs i x h)

-- a front that is longer by one has the member at that place more
take-suc_more : {A : Type 0} (xs : List A) (i : ℕ) (x : A) → slice_get xs i ≡ Some x
    → (take (suc i) xs ≡ take i xs ++ x ∷ []) × (suc i ≤ length xs)
take-suc_more [] i x h = cc
take-suc_more (y ∷ xs) zero x h = (cc, omega arith)
take-suc_more (y ∷ xs) (suc i) x h =
    let more = take-suc_more xs i x h in
    (ap (λ zs. y ∷ zs) more.0, omega (arith, more.1))

-- one more of a list
pub take-one_more : {A : Type 0} (xs : List A) (i : ℕ) (x : A) → slice_get xs i ≡ Some x
    → (take (i + 1) xs ≡ take i xs ++ x ∷ []) × (i + 1 ≤ length xs)
take-one_more xs i x h = rw add-one (take-suc_more xs i x h)

-- ---- tests

-- what holds of both answers of a test holds of each
pub each_bool : (P : Bool → Type 0) → P true → P false → (x : Bool) → P x
each_bool P on off true = on
each_bool P on off false = off
