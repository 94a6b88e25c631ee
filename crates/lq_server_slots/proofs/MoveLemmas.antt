-- Puts under the lock, with takes in between, are acts of the core.
use Rattle.std.proofs.Common.{◌≡◌, ◌≢◌, ◌⊎◌, ℕ, zero, suc, ◌+◌, ◌-◌, ◌<◌, ◌≤◌, Bool, true, false, List, [], ◌∷◌, length, Some, refl, sym, ap, subst, inl, inr, ⊎_elim, arith}
use Rattle.std.specs.Prelude.{slice_get, ◌&&◌}
use Rattle.std.proofs.lemmas.Bool.{lt-ltb, le-ltb}
use mathlib.Core.Logic.{dite}
use native.Mathlib.Decide.{ℕ_discrete}
use Rattle.lq_volume.specs.Book.{Book}
use Rattle.lq_update.specs.declared.parcel.Parcel.{Parcel}
use Rattle.lq_desk_world.specs.World.{Subscribed, whole, can_put, first_in_port, one_more_put, one_more_taken}
use Rattle.lq_desk_world.specs.declared.event.Act.{Act}
use Rattle.lq_desk_world.specs.declared.event.Act.TheVariants as act
use Rattle.lq_server_slots.specs.Turn.{MovesLead, PutsAreRuns}

-- what is within a list is there
there : (xs : List Parcel) (i : ℕ) → i < length xs → (x : Parcel) × (slice_get xs i ≡ Some x)
there [] i lt = absurd (omega arith)
there (x ∷ xs) zero lt = (x, refl)
there (x ∷ xs) (suc i) lt = there xs i (omega arith)

-- the subscription with these counts
abbrev with_counts : Subscribed → ℕ → ℕ → Subscribed
with_counts u put taken = record u { put = put; taken = taken }

-- a put with room, and then more
then_put : (b : Book) (u v : Subscribed) (acts : List Act) → u.put - u.taken < u.port
    → u.put < length (whole b u) → MovesLead b acts (one_more_put u) v
    → MovesLead b (act.Put ∷ acts) u v
then_put b u v acts room more rest =
    let can : can_put b u ≡ true = rw (lt-ltb _ _ room, lt-ltb _ _ more) refl in
    (one_more_put u, rw can refl, rw can tt, rest)

-- a take, and then more
then_take : (b : Book) (u v : Subscribed) (acts : List Act) → u.taken < u.put
    → u.put ≤ length (whole b u) → MovesLead b acts (one_more_taken u) v
    → MovesLead b (act.Take ∷ acts) u v
then_take b u v acts some within rest =
    let x = there (whole b u) u.taken (omega (arith, some, within)) in
    let first : first_in_port b u ≡ Some x.0 = rw (lt-ltb _ _ some) x.1 in
    (one_more_taken u, rw first refl, rw first tt, rest)

-- what isn't the same is below
below : (a b : ℕ) → a ≤ b → a ≢ b → a < b
below zero zero le ne = absurd (ne refl)
below zero (suc b) le ne = omega arith
below (suc a) zero le ne = absurd (omega arith)
below (suc a) (suc b) le ne =
    let lt = below a b (omega arith) (λ e. ne (ap suc e)) in omega (arith, lt)

-- so many moves lead to these counts
moves : (n : ℕ) (b : Book) (u : Subscribed) (put taken : ℕ) → 1 ≤ u.port → u.taken ≤ u.put
    → u.put ≤ put → u.taken ≤ taken → taken ≤ put → (put ≡ u.put) ⊎ (put ≤ taken + u.port)
    → put ≤ length (whole b u) → n ≡ (put - u.put) + (taken - u.taken)
    → (acts : List Act) × MovesLead b acts u (with_counts u put taken)
moves zero b u put taken port fair more later within room all is =
    let p : put ≡ u.put = omega (arith, is, more, later) in
    let t : taken ≡ u.taken = omega (arith, is, more, later) in
    ([], λ i. with_counts u (p i) (t i))
moves (suc n) b u put taken port fair more later within room all is =
    let by_put : u.put < put → u.put - u.taken < u.port
    → (acts : List Act) × MovesLead b acts u (with_counts u put taken) =
    λ lt fits.
    let rest = moves n b (one_more_put u) put taken port (omega (arith, fair))
    (omega (arith, lt)) later within
    (⊎_elim (λ (same : put ≡ u.put). inl (absurd (omega (arith, same, lt))))
    (λ (r : put ≤ taken + u.port). inr r) room)
    all (omega (arith, is, lt)) in
    (act.Put ∷ rest.0, then_put b u _ rest.0 fits (omega (arith, lt, all)) rest.1) in
    let by_take : u.taken < taken → u.taken < u.put
    → (acts : List Act) × MovesLead b acts u (with_counts u put taken) =
    λ lt some.
    let rest = moves n b (one_more_taken u) put taken port (omega (arith, some)) more
    (omega (arith, lt)) within room all (omega (arith, is, lt)) in
    (act.Take ∷ rest.0, then_take b u _ rest.0 some (omega (arith, more, all)) rest.1) in
    dite (ℕ_discrete u.taken taken)
    (λ (e : u.taken ≡ taken). by_put (omega (arith, e, is, more))
    (⊎_elim (λ (same : put ≡ u.put). absurd (omega (arith, same, e, is)))
    (λ (fits : put ≤ taken + u.port). omega (arith, fits, e, is, more, fair)) room))
    (λ (ne : u.taken ≢ taken). dite (ℕ_discrete u.taken u.put)
    (λ (e : u.taken ≡ u.put). by_put
    (let lt : u.taken < taken = below u.taken taken later ne in omega (arith, lt, e, within))
    (omega (arith, e, port)))
    (λ (apart : u.taken ≢ u.put). by_take (below u.taken taken later ne)
    (below u.taken u.put fair apart)))

-- a test that fails
both_false : (x y : Bool) → (x ≡ false) ⊎ (y ≡ false) → (x && y) ≡ false
both_false true true is = ⊎_elim (λ (e : true ≡ false). e) (λ (e : true ≡ false). e) is
both_false true false is = refl
both_false false y is = refl

-- puts and takes are runs
pub puts_run : PutsAreRuns
puts_run b u v on port fair all =
    let to : (acts : List Act) × MovesLead b acts u (with_counts u v.put v.taken) =
    moves _ b u v.put v.taken port fair on.put on.taken on.within
    (⊎_elim (λ (e : v.put ≡ u.put). inl e)
    (λ (r : v.put ≤ v.taken + v.port).
    let same = ap (λ (x : Subscribed). x.port) on.same in inr (omega (arith, r, same))) on.room)
    (rw on.same at all) refl in
    let none : can_put b v ≡ false =
    both_false _ _
    (⊎_elim (λ (out : length (whole b v) ≤ v.put). inr (le-ltb _ _ out))
    (λ (full : v.taken + v.port ≤ v.put). inl (le-ltb _ _ (omega (arith, full)))) on.still) in
    (to.0, subst (MovesLead b to.0 u) (sym on.same) to.1, rw none refl)
