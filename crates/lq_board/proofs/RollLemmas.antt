-- The numbers of changes, by who made them, and the numbers of seats.
use Rattle.std.proofs.Common.{◌≡◌, ◌≢◌, ℕ, zero, suc, ◌+◌, ◌<◌, ◌≤◌, Bool, true, false, cond, eqb, eqb-true, eq-eqb, ne_eqb, Contains, ◌⊎◌, inl, inr, ⊎_elim, List, [], ◌∷◌, ◌++◌, length, refl, sym, ap, ◌∙◌, arith}
use mathlib.Core.Logic.{dite}
use native.Mathlib.Decide.{ℕ_discrete}
use mathlib.Core.Option.{some, some-injective}
use lib.ListN.{get_elem?}
use Rattle.lq_board.specs.Roll.{changes_after, AreSeats, is_listed, without_number, others_after, numbers_after, IsMerged}

-- what follows a list that may have one more at its head
cond_more : (b : Bool) (x : ℕ) (p l : List ℕ)
    → cond b (x ∷ (p ++ l)) (p ++ l) ≡ cond b (x ∷ p) p ++ l
cond_more true x p l = refl
cond_more false x p l = refl

-- one change more, by this author, where n changes come before
pub own_after : (n a k : ℕ) (made : List ℕ) → k ≡ n + length made + 1
    → changes_after n a (made ++ a ∷ []) ≡ changes_after n a made ++ k ∷ []
own_after n a k [] is = rw (eq-eqb a a refl) (ap (λ (i : ℕ). i ∷ []) (omega (arith, is)))
own_after n a k (x ∷ made) is =
    ap (λ (p : List ℕ). cond (eqb x a) ((n + 1) ∷ p) p)
    (own_after (n + 1) a k made (omega (arith, is)))
    ∙ cond_more (eqb x a) (n + 1) (changes_after (n + 1) a made) (k ∷ [])

-- one change more, by another
pub else_after : (n a other : ℕ) (made : List ℕ) → other ≢ a
    → changes_after n a (made ++ other ∷ []) ≡ changes_after n a made
else_after n a other [] ne = rw (ne_eqb other a ne)
else_after n a other (x ∷ made) ne =
    ap (λ (p : List ℕ). cond (eqb x a) ((n + 1) ∷ p) p) (else_after (n + 1) a other made ne)

-- one change more, by a seat
pub seats_more : (n a : ℕ) (made : List ℕ) → 0 < a → a ≤ n → AreSeats n made
    → AreSeats n (made ++ a ∷ [])
seats_more n a [] pos most all = (pos, most, tt)
seats_more n a (x ∷ made) pos most all = (all.0, all.1, seats_more n a made pos most all.2)

-- one seat more
pub seats_later : (n : ℕ) (made : List ℕ) → AreSeats n made → AreSeats (n + 1) made
seats_later n [] all = tt
seats_later n (x ∷ made) all =
    let most = all.1 in
    (all.0, omega (arith, most), seats_later n made all.2)

-- one seat fewer
pub seats_without : (n k : ℕ) (xs : List ℕ) → AreSeats n xs → AreSeats n (without_number k xs)
seats_without n k [] all = tt
seats_without n k (x ∷ xs) all =
    let rest = seats_without n k xs all.2 in
    dite (ℕ_discrete x k) (λ e. rw (eq-eqb x k e) rest)
    (λ ne. rw (ne_eqb x k ne) (all.0, all.1, rest))

-- a seat that has not gone out made no change
pub none_after : (n m a : ℕ) (made : List ℕ) → m < a → AreSeats m made
    → changes_after n a made ≡ []
none_after n m a [] above all = refl
none_after n m a (x ∷ made) above all =
    let most = all.1 in
    rw (ne_eqb x a (λ e. omega (arith, e, most, above))) (none_after (n + 1) m a made above all.2)

-- and is in no list of seats
pub none_has : (m a : ℕ) (xs : List ℕ) → m < a → AreSeats m xs → is_listed a xs ≡ false
none_has m a [] above all = refl
none_has m a (x ∷ xs) above all =
    let most = all.1 in
    rw (ne_eqb x a (λ e. omega (arith, e, most, above))) (none_has m a xs above all.2)

-- a list with one more has that one
pub has_here : (k : ℕ) (xs : List ℕ) → is_listed k (k ∷ xs) ≡ true
has_here k xs = rw (eq-eqb k k refl)

-- and of others what it had
pub has_else : (k j : ℕ) (xs : List ℕ) → k ≢ j → is_listed k (j ∷ xs) ≡ is_listed k xs
has_else k j xs ne = rw (ne_eqb j k (λ e. ne (sym e)))

-- the list without k doesn't have it
pub without_here : (k : ℕ) (xs : List ℕ) → is_listed k (without_number k xs) ≡ false
without_here k [] = refl
without_here k (x ∷ xs) =
    dite (ℕ_discrete x k) (λ e. rw (eq-eqb x k e) (without_here k xs))
    (λ ne. rw (ne_eqb x k ne) (rw (ne_eqb x k ne) (without_here k xs)))

-- and of others what it had
pub without_else : (k j : ℕ) (xs : List ℕ) → j ≢ k
    → is_listed j (without_number k xs) ≡ is_listed j xs
without_else k j [] ne = refl
without_else k j (x ∷ xs) ne =
    let rest = without_else k j xs ne in
    dite (ℕ_discrete x k)
    (λ e. rw (eq-eqb x k e, ne_eqb x j (λ i. ne (sym i ∙ e))) rest)
    (λ other. rw (ne_eqb x k other) (ap (cond (eqb x j) true) rest))

-- one change more, by one who is enlisted, is none of others, where n changes come before
pub others_added : (n k : ℕ) (enlisted made : List ℕ) → is_listed k enlisted ≡ true
    → others_after n enlisted (made ++ k ∷ []) ≡ others_after n enlisted made
others_added n k enlisted [] e = rw e
others_added n k enlisted (x ∷ made) e =
    ap (λ (p : List ℕ). cond (is_listed x enlisted) p ((n + 1) ∷ p))
    (others_added (n + 1) k enlisted made e)

-- a list with an element has one
not_cons : (x : ℕ) (xs : List ℕ) → x ∷ xs ≢ []
not_cons x xs e = absurd (omega (arith, ap length e))

-- where one who made no change is enlisted, the changes of others stay
pub others_enlisted : (n k : ℕ) (enlisted made : List ℕ) → changes_after n k made ≡ []
    → others_after n (k ∷ enlisted) made ≡ others_after n enlisted made
others_enlisted n k enlisted [] none = refl
others_enlisted n k enlisted (x ∷ made) none =
    dite (ℕ_discrete x k)
    (λ e. absurd (not_cons (n + 1) _ (rw (eq-eqb x k e) at none)))
    (λ ne. rw (has_else x k enlisted ne)
    (ap (λ (p : List ℕ). cond (is_listed x enlisted) p ((n + 1) ∷ p))
    (others_enlisted (n + 1) k enlisted made (rw (ne_eqb x k ne) at none))))

-- one more in the whole and in its second part
merged_own : {p q r : List ℕ} (x : ℕ) → IsMerged p q r → IsMerged p (x ∷ q) (x ∷ r)
merged_own x m =
    let long = m.long in
    record {
      long = omega (arith, long);
      each = λ y. let each = m.each y in omega (arith, each);
      alone = λ none. ap (λ (l : List ℕ). x ∷ l) (m.alone none);
    }

-- maybe one more in the whole and in its first part
merged_else : {p q r : List ℕ} (b : Bool) (x : ℕ) → IsMerged p q r
    → IsMerged (cond b p (x ∷ p)) q (cond b r (x ∷ r))
merged_else true x m = m
merged_else {p = p} false x m =
    let long = m.long in
    record {
      long = omega (arith, long);
      each = λ y. let each = m.each y in omega (arith, each);
      alone = λ none. absurd (not_cons x p none);
    }

-- where one who is enlisted is dismissed, its changes are added to those of others
pub others_dismissed : (n k : ℕ) (enlisted made : List ℕ) → is_listed k enlisted ≡ true
    → IsMerged (others_after n enlisted made) (changes_after n k made)
    (others_after n (without_number k enlisted) made)
others_dismissed n k enlisted [] e = record { long = refl; each = λ x. refl; alone = λ _. refl }
others_dismissed n k enlisted (x ∷ made) e =
    let rest = others_dismissed (n + 1) k enlisted made e in
    dite (ℕ_discrete x k)
    (λ is.
    let in_it : is_listed x enlisted ≡ true = rw is e in
    let left : is_listed x (without_number k enlisted) ≡ false =
    rw is (without_here k enlisted) in
    rw (eq-eqb x k is, in_it, left) (merged_own (n + 1) rest))
    (λ ne. rw (ne_eqb x k ne, without_else k x enlisted ne)
    (merged_else (is_listed x enlisted) (n + 1) rest))

-- where none is enlisted the changes of others are all, where n changes come before
pub others_all : (n : ℕ) (made : List ℕ) → others_after n [] made ≡ numbers_after n (length made)
others_all n [] = refl
others_all n (x ∷ made) = ap (λ (p : List ℕ). (n + 1) ∷ p) (others_all (n + 1) made)

-- what is in a list that may have one more at its head
in_cond : (b : Bool) (x k : ℕ) (p : List ℕ) → Contains (cond b (x ∷ p) p) k
    → ((b ≡ true) × (x ≡ k)) ⊎ Contains p k
in_cond true x k p (zero, lt, e) = inl (refl, e)
in_cond true x k p (suc i, lt, e) = inr (i, omega (arith, lt), e)
in_cond false x k p h = inr h

-- where a change of this author stands, where n changes come before
made_at : (n a k : ℕ) (made : List ℕ) → Contains (changes_after n a made) k
    → (i : ℕ) × (k ≡ n + i + 1) × (get_elem? made i ≡ some a)
made_at n a k [] h = let lt = h.1 in absurd (omega (arith, lt))
made_at n a k (x ∷ made) h =
    ⊎_elim
    (λ (t : (eqb x a ≡ true) × (n + 1 ≡ k)).
    let e = t.1 in (zero, omega (arith, e), ap some (eqb-true x a t.0)))
    (λ (r : Contains (changes_after (n + 1) a made) k).
    let m = made_at (n + 1) a k made r in
    let e = m.1 in (suc m.0, omega (arith, e), m.2))
    (in_cond (eqb x a) (n + 1) k (changes_after (n + 1) a made) h)

-- a change has one author
pub one_author : (i j k : ℕ) (made : List ℕ) → i ≢ j → Contains (changes_after 0 i made) k
    → ¬ (Contains (changes_after 0 j made) k)
one_author i j k made ne h g =
    let a = made_at 0 i k made h in
    let b = made_at 0 j k made g in
    let one = a.1 in
    let two = b.1 in
    let same : a.0 ≡ b.0 = omega (arith, one, two) in
    ne (some-injective i j (sym a.2 ∙ ap (get_elem? made) same ∙ b.2))
