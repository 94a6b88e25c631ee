-- Lemmas on lists: an item at the back, an item at the front, fronts, and what stands at a place.
use Rattle.std.proofs.Common.{◌≡◌, ◌≢◌, ◌⊎◌, inl, inr, ℕ, zero, suc, List, [], ◌∷◌, ◌++◌, length, drop, set, sym, refl, ap, ◌∙◌, append_assoc, append-nil}
use mathlib.Core.List.{IsPrefix}
use mathlib.Core.Option.{some, some-ne-none}
use lib.ListN.{get_elem?}
use Rattle.atomic_table.proofs.Lists.{at_set}

module _ {T : Type 0} where
  -- nothing stands inside an empty list
  pub nil_has_no_place :
      (before : List T) (x : T) (after : List T) → [] ≡ before ++ x ∷ after → ⊥
  nil_has_no_place [] x after e = cc
  nil_has_no_place (y ∷ ys) x after e = cc

  -- an item of xs and x behind it is x, or an item of xs
  pub split_at_back :
      (xs : List T) (x : T) (before : List T) (y : T) (after : List T)
      → xs ++ x ∷ [] ≡ before ++ y ∷ after
      → ((xs ≡ before) × (x ≡ y)) ⊎ ((rest : List T) × (xs ≡ before ++ y ∷ rest))
  split_at_back [] x [] y after e = inl (refl, cc)
  split_at_back [] x (b ∷ bs) y after e = absurd (nil_has_no_place bs y after (cc))
  split_at_back (a ∷ zs) x [] y after e = inr (zs, cc)
  split_at_back (a ∷ zs) x (b ∷ bs) y after e = elim (split_at_back zs x bs y after cc) [
    | inl r ↦ inl (cc (r.0), r.1)
    | inr r ↦ inr (r.0, cc (r.1))
  ]

  -- the item at the front is the first of those ahead, if any are
  pub front_of :
      (ahead rest items : List T) (x : T) → x ∷ items ≡ ahead ++ rest
      → ((ahead ≡ []) ⊎ (ahead ≡ x ∷ drop 1 ahead)) × IsPrefix (drop 1 ahead) items
  front_of [] rest items x e = (inl refl, (items, refl))
  front_of (a ∷ zs) rest items x e = (inr cc, (rest, cc))

  -- a front stays one when an item joins at the back
  pub IsPrefix-snoc :
      (front xs : List T) (x : T) → IsPrefix front xs → IsPrefix front (xs ++ x ∷ [])
  IsPrefix-snoc front xs x s = (s.0 ++ x ∷ [], cc (s.1, append_assoc front s.0 (x ∷ [])))

  -- a list is a front of itself
  pub IsPrefix-equal : (xs ys : List T) → xs ≡ ys → IsPrefix xs ys
  IsPrefix-equal xs ys e = ([], append-nil xs ∙ e)

module _ {V : Type 0} where
  -- what stands nowhere in l stands behind it in l with one more
  pub place_at_back :
      (l : List V) (a b : V) (j : ℕ) → get_elem? l j ≢ some b
      → get_elem? (l ++ a ∷ []) j ≡ some b → j ≡ length l
  place_at_back [] a b zero n e = refl
  place_at_back [] a b (suc j) n e = absurd (some-ne-none b (sym e))
  place_at_back (x ∷ xs) a b zero n e = absurd (n e)
  place_at_back (x ∷ xs) a b (suc j) n e = ap suc (place_at_back xs a b j n e)

  -- P holds of each place and what stands there
  abbrev pub AllAt : (ℕ → V → Type 0) → List V → Type 0
  AllAt P views = (j : ℕ) (v : V) → get_elem? views j ≡ some v → P j v

  -- after one place was set P holds of each, where it holds of that one and the others
  pub AllAt-set :
      (P : ℕ → V → Type 0) (views : List V) (pass : ℕ) (w : V) → P pass w
      → ((j : ℕ) (u : V) → j ≢ pass → get_elem? views j ≡ some u → P j u)
      → AllAt P (set views pass w)
  AllAt-set P views pass w mine others j u e = elim (at_set views pass j w u e) [
    | inl x ↦ rw (x.0, ← x.1) mine
    | inr x ↦ others j u x.0 x.1
  ]
