-- Lists in the order of a number of each item: what such an order keeps, when two lists in order
-- are one, and what is picked from a list.
use Rattle.std.proofs.Common.{◌≡◌, ℕ, suc, ◌<◌, ◌≤◌, List, [], ◌∷◌, refl, sym, subst, arith, eqb, Bool, true, false, cond, map, filter, IsPermutation, Option, Some, None}
use Rattle.std.specs.Prelude.{nat_le}
use Rattle.std.specs.List.{AllByRecursion, IsDistinct, cons_option, filter_map}
use Rattle.std.specs.List.Sorted.{IsNonDecreasingBy}
use Rattle.std.proofs.lemmas.Bool.Decides.{nat_tests}
use Rattle.std.proofs.lemmas.List.Elements.{All-from_recursion, recursion_from_All}
use Rattle.std.proofs.lemmas.List.Sorted.{IsPermutation-cons, IsPermutation-map, IsPermutation-middle, IsPermutation-refl, IsPermutation-sym, IsPermutation-trans, All-permutation}
use Rattle.std.proofs.lemmas.Map.Keys.{IsDistinct-head, IsDistinct-tail, IsDistinct-IsPermutation}
use Rattle.lq_volume_entries.specs.Order.{insert_by, ordered_by, RisesBy}

-- what is so of each item of the first list is so of each item of the second
abbrev pub Covers : {X : Type 0} → List X → List X → Type 1
Covers {X} xs ys = (P : X → Type 0) → AllByRecursion P xs → AllByRecursion P ys

-- what follows from what is so of each item is so of each
pub all_weaker : {X : Type 0} (P Q : X → Type 0) (xs : List X) → ((x : X) → P x → Q x)
    → AllByRecursion P xs → AllByRecursion Q xs
all_weaker P Q [] f h = tt
all_weaker P Q (x ∷ xs) f h = (f x h.0, all_weaker P Q xs f h.1)

-- what two facts of each item give is so of each
pub all_both : {X : Type 0} (P Q R : X → Type 0) (xs : List X) → ((x : X) → P x → Q x → R x)
    → AllByRecursion P xs → AllByRecursion Q xs → AllByRecursion R xs
all_both P Q R [] f h k = tt
all_both P Q R (x ∷ xs) f h k = (f x h.0 k.0, all_both P Q R xs f h.1 k.1)

-- what is so of what a function gives of each item
pub all_map : {X Y : Type 0} (f : X → Y) (P : Y → Type 0) (xs : List X)
    → AllByRecursion P (map f xs) → AllByRecursion (λ x. P (f x)) xs
all_map f P [] h = tt
all_map f P (x ∷ xs) h = (h.0, all_map f P xs h.1)

-- the same back
pub map_all : {X Y : Type 0} (f : X → Y) (P : Y → Type 0) (xs : List X)
    → AllByRecursion (λ x. P (f x)) xs → AllByRecursion P (map f xs)
map_all f P [] h = tt
map_all f P (x ∷ xs) h = (h.0, map_all f P xs h.1)

-- a list covers its items in another order
pub covers-moved : {X : Type 0} (xs ys : List X) → IsPermutation xs ys → Covers xs ys
covers-moved xs ys moves P h =
    recursion_from_All P ys (All-permutation P xs ys moves (All-from_recursion P xs h))

-- a number is tested in the same way from both sides
flip-eqb : (a b : ℕ) → eqb a b ≡ eqb b a
flip-eqb a b = grind (arith, nat_tests)

module _ {X : Type 0} (number : X → ℕ) where
  -- an item in its place among others has moved there from their front
  moves-insert : (x : X) (ys : List X) → IsPermutation (x ∷ ys) (insert_by number x ys)
  moves-insert x [] = IsPermutation-refl (x ∷ [])
  moves-insert x (y ∷ ys) =
      elim (nat_le (number x) (number y))
      as (λ b. IsPermutation (x ∷ y ∷ ys) (cond b (x ∷ y ∷ ys) (y ∷ insert_by number x ys))) [
        | true ↦ IsPermutation-refl (x ∷ y ∷ ys)
        | false ↦ IsPermutation-trans (x ∷ y ∷ ys) (y ∷ x ∷ ys) (y ∷ insert_by number x ys)
            (IsPermutation-sym (y ∷ x ∷ ys) (x ∷ y ∷ ys) (IsPermutation-middle (y ∷ []) x ys))
            (IsPermutation-cons y (x ∷ ys) (insert_by number x ys) (moves-insert x ys))
      ]

  -- items in order are the same items, moved
  pub moves-ordered : (xs : List X) → IsPermutation xs (ordered_by number xs)
  moves-ordered [] = IsPermutation-refl []
  moves-ordered (x ∷ xs) = IsPermutation-trans (x ∷ xs) (x ∷ ordered_by number xs)
      (ordered_by number (x ∷ xs))
      (IsPermutation-cons x xs (ordered_by number xs) (moves-ordered xs))
      (moves-insert x (ordered_by number xs))

  -- the first number differs from each other where all differ
  apart-first : (x : X) (xs : List X) → IsDistinct eqb (map number (x ∷ xs))
      → AllByRecursion (λ y. eqb (number x) (number y) ≡ false) xs
  apart-first x xs own = all_map number (λ n. eqb (number x) n ≡ false) xs
      (IsDistinct-head eqb (number x) (map number xs) own)

  -- the numbers still rise with one more that differs from each
  rises_insert : (x : X) (ys : List X) → RisesBy number ys
      → AllByRecursion (λ y. eqb (number x) (number y) ≡ false) ys
      → RisesBy number (insert_by number x ys)
  rises_insert x [] h off = (tt, tt)
  rises_insert x (y ∷ ys) h off =
      at (nat_le (number x) (number y)) refl (rises_insert x ys h.1 off.1)
    where
      at : (b : Bool) → nat_le (number x) (number y) ≡ b → RisesBy number (insert_by number x ys)
          → RisesBy number (cond b (x ∷ y ∷ ys) (y ∷ insert_by number x ys))
      at true is rest =
          let differs = off.0 in
          let low : number x < number y = grind (arith, nat_tests) in (
            (
              low,
              all_weaker (λ z. number y < number z) (λ z. number x < number z) ys
                  (λ z l. omega arith) h.0,
            ),
            h,
          )
      at false is rest =
          let low : number y < number x = grind (arith, nat_tests) in (
            covers-moved (x ∷ ys) (insert_by number x ys) (moves-insert x ys)
                (λ z. number y < number z) (low, h.0),
            rest,
          )

  -- numbers that differ rise in order
  pub rises_ordered : (xs : List X) → IsDistinct eqb (map number xs)
      → RisesBy number (ordered_by number xs)
  rises_ordered [] own = tt
  rises_ordered (x ∷ xs) own = rises_insert x (ordered_by number xs)
      (rises_ordered xs (IsDistinct-tail eqb (number x) (map number xs) own))
      (covers-moved xs (ordered_by number xs) (moves-ordered xs)
      (λ y. eqb (number x) (number y) ≡ false) (apart-first x xs own))

  -- numbers that differ and don't fall rise
  rises_strictly : (xs : List X) → IsNonDecreasingBy number xs → IsDistinct eqb (map number xs)
      → RisesBy number xs
  rises_strictly [] up own = tt
  rises_strictly (x ∷ xs) up own = (
    all_both (λ y. number x ≤ number y) (λ y. eqb (number x) (number y) ≡ false)
        (λ y. number x < number y) xs (λ y l differs. grind (arith, nat_tests))
        (recursion_from_All (λ y. number x ≤ number y) xs
        (λ i d l. up 0 (suc i) d (omega arith) (omega arith)))
        (apart-first x xs own),
    rises_strictly xs (λ i j d le l. up (suc i) (suc j) d (omega arith) (omega arith))
        (IsDistinct-tail eqb (number x) (map number xs) own),
  )

  -- so do those of items that were moved until they don't fall
  pub rises_moved : (xs ys : List X) → IsPermutation xs ys → IsNonDecreasingBy number ys
      → IsDistinct eqb (map number xs) → RisesBy number ys
  rises_moved xs ys moves up own =
      rises_strictly ys up (IsDistinct-IsPermutation eqb flip-eqb (map number xs) (map number ys)
      (IsPermutation-map number xs ys moves) own)

  -- the first of rising numbers is the least of all that the list covers
  least : (x y : X) (xs ys : List X) → RisesBy number (x ∷ xs) → Covers (x ∷ xs) (y ∷ ys)
      → number x ≤ number y
  least x y xs ys h f = (f (λ z. number x ≤ number z) (
    omega arith,
    all_weaker (λ z. number x < number z) (λ z. number x ≤ number z) xs (λ z l. omega arith) h.0,
  )).0

  -- where the first numbers are one, the rest of a list covers the rest of what it covers
  covers_rest : (x y : X) (xs ys : List X) → number x ≡ number y → RisesBy number (y ∷ ys)
      → Covers (x ∷ xs) (y ∷ ys) → Covers xs ys
  covers_rest x y xs ys same k f P all =
      all_both (λ z. number x < number z → P z) (λ z. number y < number z) P ys
      (λ z p l. p (omega arith)) (f (λ z. number x < number z → P z) (
        λ l. absurd (omega arith),
        all_weaker P (λ z. number x < number z → P z) xs (λ z p l. p) all,
      )).1 k.0

  -- lists whose numbers rise are one where each covers the other
  pub same_items : (xs ys : List X) → RisesBy number xs → RisesBy number ys → Covers xs ys
      → Covers ys xs → xs ≡ ys
  same_items [] [] h k f g = refl
  same_items [] (y ∷ ys) h k f g = absurd ((f (λ z. ⊥) tt).0)
  same_items (x ∷ xs) [] h k f g = absurd ((g (λ z. ⊥) tt).0)
  same_items (x ∷ xs) (y ∷ ys) h k f g =
      let low = least x y xs ys h f in
      let high = least y x ys xs k g in
      let number_is : number x ≡ number y = omega arith in
      let first : x ≡ y = sym ((f (λ z. number z ≤ number x → z ≡ x) (
        λ l. refl,
        all_weaker (λ z. number x < number z) (λ z. number z ≤ number x → z ≡ x) xs
            (λ z l m. absurd (omega arith)) h.0,
      )).0 high) in
      let rest : xs ≡ ys = same_items xs ys h.1 k.1 (covers_rest x y xs ys number_is k f)
      (covers_rest y x ys xs (sym number_is) h g) in
      λ j. first j ∷ rest j

-- a function keeps the order of the numbers of what it gives
pub rises_map : {X Y : Type 0} (f : X → Y) (number : Y → ℕ) (xs : List X)
    → RisesBy (λ x. number (f x)) xs → RisesBy number (map f xs)
rises_map f number [] h = tt
rises_map f number (x ∷ xs) h =
    (map_all f (λ y. number (f x) < number y) xs h.0, rises_map f number xs h.1)

-- a function of the items that a filter leaves picks from the list
pub picked-is : {X Y : Type 0} (f : X → Y) (test : X → Bool) (xs : List X)
    → map f (filter test xs) ≡ filter_map (λ x. cond (test x) (Some (f x)) None) xs
picked-is f test [] = refl
picked-is f test (x ∷ xs) = grind (arith, nat_tests, picked-is f test xs)

-- what is so of what is picked of each item is so of all that is picked
pub all_picked : {X Y : Type 0} (P : Y → Type 0) (h : X → Option Y) (xs : List X)
    → AllByRecursion (λ x. (y : Y) → h x ≡ Some y → P y) xs → AllByRecursion P (filter_map h xs)
all_picked P h [] k = tt
all_picked {Y = Y} P h (x ∷ xs) k = at (h x) refl (all_picked P h xs k.1)
  where
    at : (o : Option Y) → h x ≡ o → AllByRecursion P (filter_map h xs)
        → AllByRecursion P (cons_option o (filter_map h xs))
    at None is rest = rest
    at (Some y) is rest = (k.0 y is, rest)

-- the same back
pub picked_all : {X Y : Type 0} (P : Y → Type 0) (h : X → Option Y) (xs : List X)
    → AllByRecursion P (filter_map h xs) → AllByRecursion (λ x. (y : Y) → h x ≡ Some y → P y) xs
picked_all P h [] k = tt
picked_all {X = X} {Y = Y} P h (x ∷ xs) k = at (picked_all P h xs) (h x) refl k
  where
    at : (AllByRecursion P (filter_map h xs)
        → AllByRecursion (λ z. (y : Y) → h z ≡ Some y → P y) xs) → (o : Option Y) → h x ≡ o
        → AllByRecursion P (cons_option o (filter_map h xs))
        → AllByRecursion (λ z. (y : Y) → h z ≡ Some y → P y) (x ∷ xs)
    at rest None is all = (λ y found. absurd cc, rest all)
    at rest (Some z) is all =
        (λ y found. (let same : z ≡ y = cc in subst P same all.0), rest all.1)

-- what is picked rises as the items do, where it keeps their numbers
pub rises_picked : {X Y : Type 0} (number : X → ℕ) (other : Y → ℕ) (h : X → Option Y)
    (xs : List X) → ((x : X) (y : Y) → h x ≡ Some y → other y ≡ number x) → RisesBy number xs
    → RisesBy other (filter_map h xs)
rises_picked number other h [] keeps k = tt
rises_picked {Y = Y} number other h (x ∷ xs) keeps k =
    at (h x) refl (rises_picked number other h xs keeps k.1)
  where
    at : (o : Option Y) → h x ≡ o → RisesBy other (filter_map h xs)
        → RisesBy other (cons_option o (filter_map h xs))
    at None is rest = rest
    at (Some y) is rest = (
      all_picked (λ z. other y < other z) h xs
          (all_weaker (λ z. number x < number z)
          (λ z. (w : Y) → h z ≡ Some w → other y < other w) xs
          (λ z low w found. let a = keeps x y is in let b = keeps z w found in omega arith) k.0),
      rest,
    )
