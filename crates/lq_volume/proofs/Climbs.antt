-- Walks up a tree: what a bounded walk finds, that it needs no more steps than there are records,
-- and what an edit leaves of it.
use Rattle.std.proofs.Common.{◌≡◌, subst, ℕ, zero, suc, ◌<◌, ◌≤◌, refl, arith, eqb, ap, ◌∙◌, true, false, Some, None, length, inl, inr}
use Rattle.std.specs.Prelude.{not, filter, nat_eq, Option}
use Rattle.std.specs.Option.{option_map, option_map_or}
use Rattle.std.specs.Map.{lookup}
use Rattle.std.proofs.lemmas.Bool.Decides.{nat_tests}
use Rattle.std.proofs.lemmas.Bool.{cases_eq}
use Rattle.lq_volume.specs.State.{Record, climbs, dir_of}
use Rattle.lq_volume.specs.Walk.{Climb}
use Rattle.lq_volume_entries.specs.Laws.{RecordsAreKept}
use Rattle.lq_volume.proofs.RecordLemmas.{Entries, length-filter_lt}

-- what a bounded walk finds, some number of steps within the bound comes to
pub climbs-sound : (f : ℕ) (up : ℕ → Option ℕ) (to at : ℕ) → climbs f up to at ≡ true
    → (k : ℕ) × (k ≤ f) × Climb up to k at
climbs-sound zero up to at h = (0, omega arith, grind (arith, nat_tests))
climbs-sound (suc f) up to at h = elim (cases_eq at to) [
  | inl same ↦ (0, omega arith, same)
  | inr differs ↦ walk (λ d. climbs-sound f up to d)
      (up at) refl (let off : eqb at to ≡ false = grind (arith, nat_tests) in rw off at h)
]
  where
    walk : ((d : ℕ) → climbs f up to d ≡ true → (k : ℕ) × (k ≤ f) × Climb up to k d)
        → (o : Option ℕ) → up at ≡ o → option_map_or (climbs f up to) o false ≡ true
        → (k : ℕ) × (k ≤ suc f) × Climb up to k at
    walk hyp None is more = cc
    walk hyp (Some d) is more =
        let rest : (k : ℕ) × (k ≤ f) × Climb up to k d = hyp d more in
        (suc rest.0, omega arith, (d, is, rest.2))

-- a bounded walk finds what some number of steps within the bound comes to
pub climbs-complete : (f k : ℕ) (up : ℕ → Option ℕ) (to at : ℕ) → k ≤ f → Climb up to k at
    → climbs f up to at ≡ true
climbs-complete zero zero up to at h c = grind (arith, nat_tests)
climbs-complete zero (suc k) up to at h c = absurd (omega arith)
climbs-complete (suc f) zero up to at h c = grind (arith, nat_tests)
climbs-complete (suc f) (suc k) up to at h c =
    let rest = climbs-complete f k up to c.0 (omega arith) c.2 in
    let is = c.1 in
    grind (arith, nat_tests)

-- no walk goes past the root
pub Climb-within : (up : ℕ → Option ℕ) (to x k j at : ℕ) → up to ≡ None → Climb up to k at
    → Climb up x j at → j ≤ k
Climb-within up to x k zero at none c d = omega arith
Climb-within up to x zero (suc j) at none c d =
    absurd (let e = d.1 in let f : up to ≡ Some d.0 = rw (← c) e in let no : ⊥ = cc in no)
Climb-within up to x (suc k) (suc j) at none c d =
    let e = c.1 in let f = d.1 in let same : d.0 ≡ c.0 = cc in
    let rest = Climb-within up to x k j c.0 none c.2 (subst (λ (n : ℕ). Climb up x j n) same d.2) in
    omega arith

-- a walk that keeps off a node is there without it
pub Climb-avoid : (up new : ℕ → Option ℕ) (to x k at : ℕ) → ((n : ℕ) → (n ≡ x → ⊥) → new n ≡ up n)
    → ((j : ℕ) → j < k → Climb up x j at → ⊥) → Climb up to k at → Climb new to k at
Climb-avoid up new to x zero at same off c = c
Climb-avoid up new to x (suc k) at same off c = (
  c.0,
  same at (off 0 (omega arith)) ∙ c.1,
  Climb-avoid up new to x k c.0 same (λ j lt d. off (suc j) (omega arith) (c.0, c.1, d)) c.2,
)

-- a walk that starts above a node keeps off it, since each walk to the top gets shorter
pub Climb-above : (up : ℕ → Option ℕ) (to x k j at i : ℕ) → up to ≡ None → Climb up to k at
    → Climb up to j x → k < j → Climb up x i at → ⊥
Climb-above up to x k j at zero none c d lt e =
    let less = Climb-within up to to k j at none c (rw e d) in
    omega arith
Climb-above up to x zero j at (suc i) none c d lt e = let f = e.1 in cc
Climb-above up to x (suc k) j at (suc i) none c d lt e =
    let f = e.1 in let g = c.1 in let same : c.0 ≡ e.0 = cc in
    Climb-above up to x k j e.0 i none (rw (← same) c.2) d (omega arith) e.2

-- the entries without one node
abbrev rest_of : Entries → ℕ → Entries
rest_of es at = filter (λ e. not (eqb e.0 at)) es

-- a walk to the top has no more steps than there are records
pub Climb-short : RecordsAreKept → (k : ℕ) (es : Entries) (to at : ℕ) → dir_of es to ≡ None
    → Climb (dir_of es) to k at → k ≤ length es
Climb-short laws zero es to at none c = omega arith
Climb-short laws (suc k) es to at none c =
    fewer (Climb-short laws k (rest_of es at) to c.0 top less) (lookup (nat_eq at) es) refl
  where
    off : (n : ℕ) → (n ≡ at → ⊥) → dir_of (rest_of es at) n ≡ dir_of es n
    off n differs = let l = laws.found.removed es at n in grind (arith, nat_tests)

    top : dir_of (rest_of es at) to ≡ None
    top = let l = laws.found.removed es at to in grind (arith, nat_tests)

    less : Climb (dir_of (rest_of es at)) to k c.0
    less = Climb-avoid (dir_of es) (dir_of (rest_of es at)) to at k c.0 off
        (λ j lt d. Climb-above (dir_of es) to at k (suc k) c.0 j none c.2 c (omega arith) d) c.2

    fewer : k ≤ length (rest_of es at) → (o : Option Record) → lookup (nat_eq at) es ≡ o
        → suc k ≤ length es
    fewer short None is =
        let e = c.1 in
        let f : dir_of es at ≡ None = ap (option_map (λ (r : Record). r.dir)) is in
        cc
    fewer short (Some r) is = let lt = length-filter_lt es at r is in omega arith

-- a walk that was there stays, where nodes only come
pub Climb-more : (up new : ℕ → Option ℕ) (to k at : ℕ)
    → ((n d : ℕ) → up n ≡ Some d → new n ≡ Some d) → Climb up to k at → Climb new to k at
Climb-more up new to zero at more c = c
Climb-more up new to (suc k) at more c = (c.0, more at c.0 c.1, Climb-more up new to k c.0 more c.2)

-- no walk comes to a node that nothing is in
pub Climb-childless : (up : ℕ → Option ℕ) (x k at : ℕ) → ((n : ℕ) → up n ≡ Some x → ⊥)
    → (at ≡ x → ⊥) → Climb up x k at → ⊥
Climb-childless up x zero at none differs c = differs c
Climb-childless up x (suc k) at none differs c =
    Climb-childless up x k c.0 none (λ e. none at (rw (← e) c.1)) c.2

-- where one node's folder changes and a walk goes up from there, one goes up from each node that
-- had one
pub Climb-moved : (up new : ℕ → Option ℕ) (to x k at : ℕ) → ((n : ℕ) → (n ≡ x → ⊥) → new n ≡ up n)
    → (j : ℕ) × Climb new to j x → Climb up to k at → (j : ℕ) × Climb new to j at
Climb-moved up new to x zero at same from c = (0, c)
Climb-moved up new to x (suc k) at same from c =
    let rest = Climb-moved up new to x k c.0 same from c.2 in
    elim (cases_eq at x) [
      | inl e ↦ rw e from
      | inr differs ↦ (suc rest.0, (c.0, same at differs ∙ c.1, rest.1))
    ]
