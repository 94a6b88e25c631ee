-- Lists: their parts, their places, and what holds of all of them.
use Rattle.std.proofs.Common.{◌≡◌, ◌≢◌, ℕ, zero, suc, ◌-◌, ◌<◌, List, [], ◌∷◌, ◌++◌, refl, ap, sym, take, drop, length, map, ◌∙◌, arith, Some, None, Option}
use Rattle.std.specs.Prelude.{slice_get, slice_set, ◌⊎◌, ◌==◌, nat_lt, if◌then◌else◌}
use Rattle.std.specs.List.{AllByRecursion}
use Rattle.std.specs.Option.{option_flatten, option_map}
use Rattle.std.proofs.lemmas.Bool.Decides.{nat_tests}
use Rattle.std.proofs.lemmas.List.{get_or-set_same, length-set}
use Rattle.std.proofs.lemmas.Option.{slice_get_read}

-- what is so of all is so of the one at a place
pub all-get : {A : Type 0} (P : A → Type 0) (xs : List A) (i : ℕ) (x : A) → AllByRecursion P xs
    → slice_get xs i ≡ Some x → P x
all-get P [] i x h at = cc
all-get P (y ∷ xs) zero x h at = let same : y ≡ x = cc in rw same at h.0
all-get P (y ∷ xs) (suc i) x h at = all-get P xs i x h.1 at

-- what is so of all, and of one more, is so after that one is written
pub all-set : {A : Type 0} (P : A → Type 0) (xs : List A) (i : ℕ) (y : A) → AllByRecursion P xs
    → P y → AllByRecursion P (slice_set xs i y)
all-set P [] i y h p = tt
all-set P (x ∷ xs) zero y h p = (p, h.1)
all-set P (x ∷ xs) (suc i) y h p = (h.0, all-set P xs i y h.1 p)

-- ---- a part of a list

-- the first of the rest is the one at that place
get-drop : {A : Type 0} (n : ℕ) (xs : List A) → slice_get (drop n xs) 0 ≡ slice_get xs n
get-drop zero xs = refl
get-drop (suc n) [] = refl
get-drop (suc n) (x ∷ xs) = get-drop n xs

-- a place of a front is one of the list, or past the front
get-take : {A : Type 0} (n i : ℕ) (xs : List A)
    → slice_get (take n xs) i ≡ (if nat_lt i n then slice_get xs i else None)
get-take zero i xs = grind (arith, nat_tests)
get-take (suc n) i [] = grind (arith, nat_tests)
get-take (suc n) zero (x ∷ xs) = grind (arith, nat_tests)
get-take (suc n) (suc i) (x ∷ xs) = grind (arith, nat_tests, get-take n i xs)

-- the first between two places
pub get-between : {A : Type 0} (m n : ℕ) (xs : List A)
    → slice_get (drop m (take n xs)) 0 ≡ (if nat_lt m n then slice_get xs m else None)
get-between m n xs = get-drop m (take n xs) ∙ get-take n m xs

-- the element behind a front is at the front's length
pub get-seam : {A : Type 0} (xs : List A) (y : A) (ys : List A)
    → slice_get (xs ++ y ∷ ys) (length xs) ≡ Some y
get-seam [] y ys = refl
get-seam (x ∷ xs) y ys = get-seam xs y ys

-- ---- a list with one place written

-- what was written at a place within a list is there
pub get-set : {A : Type 0} (xs : List A) (i : ℕ) (y : A) → i < length xs
    → slice_get (slice_set xs i y) i ≡ Some y
get-set xs i y lt = slice_get_read (slice_set xs i y) _ i y (sym (length-set xs i y)) lt
    (sym (get_or-set_same xs i y y lt))

-- what is found where one place was written: what was written, or what was at another place
pub get-put : {A : Type 0} (xs : List A) (i j : ℕ) (y z : A)
    → slice_get (slice_set xs i y) j ≡ Some z
    → ((j ≡ i) × (z ≡ y)) ⊎ ((j ≢ i) × (slice_get xs j ≡ Some z))
get-put [] i j y z h = cc
get-put (x ∷ xs) zero zero y z h = grind arith
get-put (x ∷ xs) zero (suc j) y z h = grind arith
get-put (x ∷ xs) (suc i) zero y z h = grind arith
get-put (x ∷ xs) (suc i) (suc j) y z h = grind (arith, get-put xs i j y z h)

-- ---- lists of slots: slot k is at index k - 1

-- what is in a slot is at its place
pub slot-there : {A : Type 0} (xs : List (Option A)) (slot : ℕ) (x : A)
    → (if slot == 0 then None else option_flatten (slice_get xs (slot - 1))) ≡ Some x
    → slice_get xs (slot - 1) ≡ Some (Some x)
slot-there xs slot x is = grind arith

-- what two functions give one after the other, one gives
pub map-slots : {A B C : Type 0} (f : A → B) (g : B → C) (h : A → C)
    → ((a : A) → g (f a) ≡ h a) → (xs : List (Option A))
    → map (option_map g) (map (option_map f) xs) ≡ map (option_map h) xs
map-slots f g h same [] = refl
map-slots f g h same (None ∷ xs) = ap (λ ys. None ∷ ys) (map-slots f g h same xs)
map-slots f g h same (Some x ∷ xs) = cc (same x, map-slots f g h same xs)
