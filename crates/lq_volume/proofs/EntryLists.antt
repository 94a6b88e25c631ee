-- Lists of nodes and records: what is found in one, its front and its last node.
use Rattle.std.proofs.Common.{◌≡◌, ℕ, zero, suc, ◌<◌, ◌≤◌, List, [], ◌∷◌, ◌++◌, refl, arith, eqb, ap, subst, Bool, true, false, length}
use Rattle.std.specs.Prelude.{nat_eq, Some, None, take, drop, slice_get}
use Rattle.std.specs.List.{AllByRecursion, list_all}
use Rattle.std.specs.Map.{lookup}
use Rattle.std.proofs.lemmas.Bool.Decides.{nat_tests}
use Rattle.lq_volume.specs.State.{Record, Rises}
use Rattle.lq_volume.specs.Restore.{last_after}
use Rattle.lq_volume.proofs.RecordLemmas.{Entries}

-- what is so of all entries is so of the one that is found under a node
pub All-found : (P : ℕ × Record → Type 0) (es : Entries) (n : ℕ) (r : Record)
    → AllByRecursion P es → lookup (nat_eq n) es ≡ Some r → P (n, r)
All-found P [] n r h is = cc
All-found P (e ∷ es) n r h is = at (All-found P es n r h.1) (eqb n e.0) refl
  where
    at : (lookup (nat_eq n) es ≡ Some r → P (n, r)) → (b : Bool) → eqb n e.0 ≡ b → P (n, r)
    at hyp true same =
        let node : e.0 ≡ n = grind (arith, nat_tests) in
        let value : e.1 ≡ r = grind (arith, nat_tests) in
        let pair : ◌≡◌ {A = ℕ × Record} e (n, r) = λ j. (node j, value j) in
        subst P pair h.0
    at hyp false other = hyp (grind (arith, nat_tests))

-- a node below all others is not found among them
lookup-below : (es : Entries) (k m : ℕ) → AllByRecursion (λ f. m < f.0) es → k ≤ m
    → lookup (nat_eq k) es ≡ None
lookup-below [] k m h low = refl
lookup-below (e ∷ es) k m h low = grind (arith, nat_tests, lookup-below es k m h.1, h.0)

-- what is so of the one that is found under each node is so of all entries, where nodes rise
pub found-All : (P : ℕ × Record → Type 0) (es : Entries) → Rises es
    → ((n : ℕ) (r : Record) → lookup (nat_eq n) es ≡ Some r → P (n, r)) → AllByRecursion P es
found-All P [] rise h = tt
found-All P (e ∷ es) rise h = (
  h e.0 e.1 (grind (arith, nat_tests)),
  found-All P es rise.1 (λ n r is. h n r
      (let off = lookup-below es e.0 e.0 rise.0 (omega arith) in
      let differs : n ≡ e.0 → ⊥ = λ same.
      (let no : lookup (nat_eq e.0) es ≡ Some r = rw (← same) is in let clash : ⊥ = cc in clash) in
      grind (arith, nat_tests))),
)

-- where nodes rise, each entry is found under its node
pub found-own : (es : Entries) → Rises es
    → AllByRecursion (λ e. lookup (nat_eq e.0) es ≡ Some e.1) es
found-own es rise = found-All (λ e. lookup (nat_eq e.0) es ≡ Some e.1) es rise (λ n r is. is)

-- the nodes of a front are below that of what follows it
pub Rises-front : (es fs : Entries) (e : ℕ × Record) → Rises (es ++ e ∷ fs)
    → AllByRecursion (λ f. f.0 < e.0) es
Rises-front [] fs e h = tt
Rises-front (f ∷ es) fs e h = (below es h.0, Rises-front es fs e h.1)
  where
    below : (gs : Entries) → AllByRecursion (λ g. f.0 < g.0) (gs ++ e ∷ fs) → f.0 < e.0
    below [] k = k.0
    below (g ∷ gs) k = below gs k.1

-- what is so of all of a list is so of its front
All-front : (P : ℕ × Record → Type 0) (es fs : Entries) → AllByRecursion P (es ++ fs)
    → AllByRecursion P es
All-front P [] fs h = tt
All-front P (e ∷ es) fs h = (h.0, All-front P es fs h.1)

-- the nodes of a front rise
pub Rises-of_front : (es fs : Entries) → Rises (es ++ fs) → Rises es
Rises-of_front [] fs h = tt
Rises-of_front (e ∷ es) fs h = (All-front (λ f. e.0 < f.0) es fs h.0, Rises-of_front es fs h.1)

-- what is so of all of a list is so of one within
pub All-middle : (P : ℕ × Record → Type 0) (es fs : Entries) (e : ℕ × Record)
    → AllByRecursion P (es ++ e ∷ fs) → P e
All-middle P [] fs e h = h.0
All-middle P (f ∷ es) fs e h = All-middle P es fs e h.1

-- what is found in a front is found in the list
pub lookup-front : (es fs : Entries) (n : ℕ) (r : Record) → lookup (nat_eq n) es ≡ Some r
    → lookup (nat_eq n) (es ++ fs) ≡ Some r
lookup-front [] fs n r is = cc
lookup-front (e ∷ es) fs n r is = let rest = lookup-front es fs n r in grind (arith, nat_tests)

-- one within is found under its node, where those before it have others
pub lookup-middle : (es fs : Entries) (e : ℕ × Record) → AllByRecursion (λ f. f.0 < e.0) es
    → lookup (nat_eq e.0) (es ++ e ∷ fs) ≡ Some e.1
lookup-middle [] fs e h = grind (arith, nat_tests)
lookup-middle (f ∷ es) fs e h =
    let rest = lookup-middle es fs e h.1 in
    let less = h.0 in
    grind (arith, nat_tests)

-- the last node of a list with one more
pub last-pushed : (x : ℕ) (es : Entries) (e : ℕ × Record) → last_after x (es ++ e ∷ []) ≡ e.0
last-pushed x [] e = refl
last-pushed x (f ∷ es) e = last-pushed f.0 es e

-- it is one of those before a node that is above all
pub last-below : (x k : ℕ) (es : Entries) → x < k → AllByRecursion (λ f. f.0 < k) es
    → last_after x es < k
last-below x k [] lt h = lt
last-below x k (e ∷ es) lt h = last-below e.0 k es h.0 h.1

-- it is above a node that all are above
pub last-above : (x k : ℕ) (es : Entries) → k ≤ x → AllByRecursion (λ f. k ≤ f.0) es
    → k ≤ last_after x es
last-above x k [] le h = le
last-above x k (e ∷ es) le h = last-above e.0 k es h.0 h.1

-- it is at least the one that the list goes on after
last-rises : (x : ℕ) (es : Entries) → AllByRecursion (λ f. x < f.0) es → Rises es
    → x ≤ last_after x es
last-rises x [] h rise = omega arith
last-rises x (e ∷ es) h rise =
    let less = h.0 in
    let rest = last-rises e.0 es rise.0 rise.1 in
    omega arith

-- all nodes are below one that is above the last
pub below-last : (x k : ℕ) (es : Entries) → Rises es → last_after x es < k
    → AllByRecursion (λ f. f.0 < k) es
below-last x k [] rise lt = tt
below-last x k (e ∷ es) rise lt =
    let least = last-rises e.0 es rise.0 rise.1 in
    (omega arith, below-last e.0 k es rise.1 lt)

-- what a test says of all, it says of each
pub all-hold : {X : Type 0} (test : X → Bool) (xs : List X) → list_all test xs ≡ true
    → AllByRecursion (λ x. test x ≡ true) xs
all-hold test [] h = tt
all-hold test (x ∷ xs) h = (grind (arith, nat_tests), all-hold test xs (grind (arith, nat_tests)))

-- the same back
pub hold-all : {X : Type 0} (test : X → Bool) (xs : List X) → AllByRecursion (λ x. test x ≡ true) xs
    → list_all test xs ≡ true
hold-all test [] h = refl
hold-all test (x ∷ xs) h =
    let rest = hold-all test xs h.1 in let here = h.0 in grind (arith, nat_tests)

-- a list is what is before an item, the item, and what is after it
pub split-at : {X : Type 0} (xs : List X) (i : ℕ) (x : X) → slice_get xs i ≡ Some x
    → xs ≡ take i xs ++ x ∷ drop (suc i) xs
split-at [] i x h = cc
split-at (y ∷ ys) zero x h = let same : y ≡ x = cc in rw same refl
split-at (y ∷ ys) (suc i) x h = ap (λ (zs : List _). y ∷ zs) (split-at ys i x h)

-- one more item of a list
pub take-next : {X : Type 0} (xs : List X) (i : ℕ) (x : X) → slice_get xs i ≡ Some x
    → take (suc i) xs ≡ take i xs ++ x ∷ []
take-next [] i x h = cc
take-next (y ∷ ys) zero x h = let same : y ≡ x = cc in rw same refl
take-next (y ∷ ys) (suc i) x h = ap (λ (zs : List _). y ∷ zs) (take-next ys i x h)

-- a list with the length 0 has no items
pub none-left : {X : Type 0} (xs : List X) (n : ℕ) → n ≡ length xs → n ≡ 0 → xs ≡ []
none-left [] n is none = refl
none-left (x ∷ xs) n is none = absurd (omega arith)
