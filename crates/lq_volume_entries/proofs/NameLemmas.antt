-- The names of a folder: whether it has any, and the nodes under all of them.
use Rattle.std.proofs.Common.{◌≡◌, ◌↔◌, Ordering, subst, ℕ, List, [], ◌∷◌, ◌++◌, refl, sym, arith, ap, ◌∙◌, Bool, true, false}
use Rattle.std.specs.Prelude.{not, Option, Some, None, length, ◌||◌, ◌==◌, option_and_then}
use Rattle.std.specs.BTreeMap.{BTreeMap, get, is_at}
use Rattle.std.specs.Cmp.{IsTotalOrder, eq_by_cmp_equiv}
use Rattle.std.specs.Cmp.Lexicographic.{slice_cmp}
use Rattle.std.specs.List.{Contains}
use Rattle.std.specs.Map.{lookup, values_of}
use Rattle.std.specs.Option.{option_map_or}
use Rattle.std.specs.Ordering.{nat_cmp}
use Rattle.std.proofs.lemmas.Bool.Decides.{nat_tests}
use Rattle.std.proofs.lemmas.Cmp.{nat_cmp_total, nat_list_cmp_total}
use Rattle.std.proofs.lemmas.List.Elements.{Contains-append_left, Contains-append_right}
use Rattle.std.proofs.lemmas.Map.Lookups.{CmpEqualImpliesEq, exact_bytes, exact_unsigned}
use Rattle.std.proofs.lemmas.Map.Made.{Contains-values_of}
use Rattle.std.proofs.lemmas.Map.Views.{IfSome-get}
use Rattle.std.proofs.lemmas.Option.{MatchOption-at_some}
use Rattle.lq_volume_entries.specs.declared.places.Names.{Names}
use Rattle.lq_volume_entries.specs.declared.places.Places.{Places}
use Rattle.lq_volume_entries.specs.Places.{has_names, first_in, other_in, IsNameless}

module _ {K : Type 0} {cmp : K → K → Ordering} (o : IsTotalOrder cmp) (m : BTreeMap K ℕ) where
  -- an empty map has nothing under a key
  empty-none : (k : K) → (length m.entries == 0) ≡ true → get cmp m k ≡ None
  empty-none k empty = at m.entries empty
    where
      at : (es : List (K × ℕ)) → (length es == 0) ≡ true → lookup (is_at (cmp k)) es ≡ None
      at [] e = refl
      at (x ∷ xs) e = grind (arith, nat_tests)

  -- any other has something under some key
  full-some : (length m.entries == 0) ≡ false → ((k : K) → get cmp m k ≡ None) → ⊥
  full-some full none = at m.entries full none
    where
      at : (es : List (K × ℕ)) → (length es == 0) ≡ false
          → ((k : K) → lookup (is_at (cmp k)) es ≡ None) → ⊥
      at [] e h = cc
      at (x ∷ xs) e h =
          let same = (eq_by_cmp_equiv o).refl x.0 in
          let here = h x.0 in
          absurd (grind (arith, nat_tests))

  -- what is under a key is among the values
  among : CmpEqualImpliesEq cmp → (k : K) (x : ℕ) → get cmp m k ≡ Some x
      → Contains (values_of m.entries) x
  among exact k x there = Contains-values_of m.entries k x
      (MatchOption-at_some _ (λ v. Contains m.entries (k, v)) x there (IfSome-get o exact m k))

-- whether the map of a folder, if there is one, has a name
nameless-in : (o : Option Names) (has : Bool)
    → has ≡ option_map_or (λ names. not (length names.first.entries == 0)
    || not (length names.others.entries == 0)) o false
    → (has ≡ false) ↔ (((h : ℕ) → option_and_then (λ (n : Names). get nat_cmp n.first h) o ≡ None)
    × ((n : List ℕ)
    → option_and_then (λ (m : Names). get (slice_cmp nat_cmp) m.others n) o ≡ None))
nameless-in None has is = ((λ h. ((λ k. refl), (λ n. refl))), (λ w. is))
nameless-in (Some names) has is = (
  (λ h. (
    (λ k. empty-none nat_cmp_total names.first k (grind (arith, nat_tests))),
    (λ n. empty-none nat_list_cmp_total names.others n (grind (arith, nat_tests))),
  )),
  (λ w. by w.0 w.1 (length names.first.entries == 0) refl
      (length names.others.entries == 0) refl),
)
  where
    by : ((h : ℕ) → get nat_cmp names.first h ≡ None)
        → ((n : List ℕ) → get (slice_cmp nat_cmp) names.others n ≡ None)
        → (a : Bool) → (length names.first.entries == 0) ≡ a
        → (b : Bool) → (length names.others.entries == 0) ≡ b → has ≡ false
    by v w true e true f = grind (arith, nat_tests)
    by v w true e false f = absurd (full-some nat_list_cmp_total names.others f w)
    by v w false e b f = absurd (full-some nat_cmp_total names.first e v)

-- whether a folder has a name, by what is under its hashes and names
pub nameless-is : (p : Places) (d : ℕ) (has : Bool) → has ≡ has_names p d
    → (has ≡ false) ↔ IsNameless p d
nameless-is p d has is = nameless-in (get nat_cmp p.folders d) has is

-- a node under a hash of a folder is among its names' nodes
pub first-among : (p : Places) (dir h x : ℕ) (names : Names) (ns : List ℕ)
    → Some names ≡ get nat_cmp p.folders dir
    → ns ≡ values_of names.first.entries ++ values_of names.others.entries
    → first_in p dir h ≡ Some x → Contains ns x
first-among p dir h x names ns is all there =
    subst (λ (l : List ℕ). Contains l x) (sym all)
    (Contains-append_left (values_of names.first.entries) (values_of names.others.entries) x
    (among nat_cmp_total names.first exact_unsigned h x
    (ap (option_and_then (λ (n : Names). get nat_cmp n.first h)) is ∙ there)))

-- so is one under a name
pub other-among : (p : Places) (dir : ℕ) (n : List ℕ) (x : ℕ) (names : Names) (ns : List ℕ)
    → Some names ≡ get nat_cmp p.folders dir
    → ns ≡ values_of names.first.entries ++ values_of names.others.entries
    → other_in p dir n ≡ Some x → Contains ns x
other-among p dir n x names ns is all there =
    subst (λ (l : List ℕ). Contains l x) (sym all)
    (Contains-append_right (values_of names.first.entries) (values_of names.others.entries) x
    (among nat_list_cmp_total names.others exact_bytes n x
    (ap (option_and_then (λ (m : Names). get (slice_cmp nat_cmp) m.others n)) is ∙ there)))
