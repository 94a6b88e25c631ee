-- The places of the slots, and the sets that mark them, stay as they have to be.
use Rattle.std.proofs.Common.{◌≡◌, ◌≢◌, ◌∙◌, ℕ, zero, suc, List, length, map, replicate, Bool, true, false, Option, Some, None, refl, sym, ap, inl, inr, arith}
use Rattle.std.specs.Prelude.{slice_get, slice_set, ◌||◌, ◌⊎◌}
use Rattle.std.specs.Option.{option_map, option_flatten}
use Rattle.std.proofs.lemmas.Bool.{both_ways, false_from_ne_true}
use Rattle.std.proofs.lemmas.List.{length-map, length-set, map-set}
use Rattle.std.proofs.lemmas.Option.{slice_get-map}
use Rattle.lq_update.specs.declared.mark.Cause.TheVariants.{Closed}
use Rattle.lq_update.specs.declared.parcel.Parcel.{Parcel}
use Rattle.lq_desk_world.specs.Events.{Answer}
use Rattle.lq_desk_sub.specs.declared.watch.Watch.{Watch}
use Rattle.lq_desk_sub.specs.Held.{is_live, ended_by}
use Rattle.lq_desk_sub.specs.SlotSet.{has}
use Rattle.lq_desk_sub.specs.Visits.{Visits}
use Rattle.lq_desk.specs.Slot.{KeptSlot, PreparedSlot, slot_of, can_move, close_if, filled, has_work, is_ending, noticed, passes, read_if}
use Rattle.lq_desk.specs.Act.{close_turn, read_turn}
use Rattle.lq_desk.specs.Words.{ArePlaces, AreWatched, MarksPassing}
use Rattle.lq_desk.proofs.ListLemmas.{get-put}
use Rattle.lq_desk.proofs.PassLemmas.{visits-from}
use Rattle.lq_desk.proofs.PutLemmas.{KeepsSub, asking, filled-ends, filled-still, noticed-still}
use Rattle.lq_desk.proofs.SlotsLemmas.{kept-there, kept_slot, taken-there}
use Rattle.lq_desk.proofs.WatchLemmas.{watched-from, watched-left}

-- a slot that isn't in the set fails the test
pub unmarked : (test : KeptSlot → Bool) (set : ℕ) (xs : List (Option PreparedSlot)) (i : ℕ)
    (x : PreparedSlot) → MarksPassing test set (map kept_slot xs) → slice_get xs i ≡ Some (Some x)
    → has set i ≡ false → test (slot_of x) ≡ false
unmarked test set xs i x marked found none = false_from_ne_true (test (slot_of x))
    (λ is. both_ways _ none (marked i (slot_of x) (kept-there xs i x found) is))

-- ---- a pass

-- of visits of the slots of a set
module _ {S : Type 0} (allows : S → ℕ → PreparedSlot → Type 0)
    (did : S → ℕ → PreparedSlot → PreparedSlot → Type 0) (p : ℕ → Bool)
    (xs ys : List (Option PreparedSlot)) (s t : S) (v : Visits allows did p xs ys s t)
  where
    -- what is kept in a slot was visited there, or is as it was
    abbrev From : ℕ → KeptSlot → Type 0
    From i k = (x : PreparedSlot) × (y : PreparedSlot)
        × (slice_get (map kept_slot xs) i ≡ Some (Some (slot_of x))) × (slot_of y ≡ k)
        × (((p i ≡ true) × did t i x y) ⊎ ((p i ≡ false) × (x ≡ y)))

    -- so is what is kept afterwards
    kept-from : (i : ℕ) (k : KeptSlot) → slice_get (map kept_slot ys) i ≡ Some (Some k) → From i k
    kept-from i k found = by (slice_get ys i) refl (sym (slice_get-map kept_slot ys i) ∙ found)
      where
        by : (o : Option (Option PreparedSlot)) → slice_get ys i ≡ o
            → option_map kept_slot o ≡ Some (Some k) → From i k
        by None at is = cc
        by (Some None) at is = cc
        by (Some (Some y)) at is =
            let f = visits-from allows did p xs ys s t v i y at in
            let same : slot_of y ≡ k = cc in
            (f.0, y, kept-there xs i f.0 f.1, same, f.2)

    -- a set goes on marking the slots
    marked-passed : (test : KeptSlot → Bool) (old new : ℕ)
        → ((i : ℕ) (x y : PreparedSlot) → p i ≡ true → did t i x y
        → (test (slot_of x) ≡ true → has old i ≡ true) → test (slot_of y) ≡ true
        → has new i ≡ true)
        → ((i : ℕ) → p i ≡ false → has old i ≡ true → has new i ≡ true)
        → MarksPassing test old (map kept_slot xs) → MarksPassing test new (map kept_slot ys)
    marked-passed test old new visited left marked i k found is =
        let f = kept-from i k found in
        let was = marked i (slot_of f.0) f.2 in
        let ends : test (slot_of f.1) ≡ true = rw f.3 is in
        elim f.4 [
          | inl d ↦ visited i f.0 f.1 d.0 d.1 was ends
          | inr d ↦ left i d.0 (was (rw d.1 ends))
        ]

    -- the places stay as they have to be, where each visit and each slot without one leaves them so
    pub places-passed : length ys ≡ 64 → (ends moves ends' moves' : ℕ) (w : Watch)
        → ((i : ℕ) (x y : PreparedSlot) → did t i x y → asking y.sub.held ≡ asking x.sub.held)
        → ((i : ℕ) (x y : PreparedSlot) → p i ≡ true → did t i x y
        → (is_ending (slot_of x) ≡ true → has ends i ≡ true) → is_ending (slot_of y) ≡ true
        → has ends' i ≡ true)
        → ((i : ℕ) → p i ≡ false → has ends i ≡ true → has ends' i ≡ true)
        → ((i : ℕ) (x y : PreparedSlot) → p i ≡ true → did t i x y
        → (can_move (slot_of x) ≡ true → has moves i ≡ true) → can_move (slot_of y) ≡ true
        → has moves' i ≡ true)
        → ((i : ℕ) → p i ≡ false → has moves i ≡ true → has moves' i ≡ true)
        → ArePlaces ends moves w (map kept_slot xs) → ArePlaces ends' moves' w (map kept_slot ys)
    places-passed wide ends moves ends' moves' w query end left move idle all = record {
      wide = length-map ys kept_slot ∙ wide;
      ends = marked-passed is_ending ends ends' end left all.ends;
      moves = marked-passed can_move moves moves' move idle all.moves;
      watched = watched-from w (map kept_slot xs) (map kept_slot ys) (λ i k found.
          let f = kept-from i k found in (
            slot_of f.0,
            f.2,
            ap (λ (j : KeptSlot). asking j.held) (sym f.3) ∙ elim f.4 [
              | inl d ↦ query i f.0 f.1 d.1
              | inr d ↦ ap (λ (q : PreparedSlot). asking q.sub.held) (sym d.1)
            ],
          )) all.watched;
    }

-- ---- free places

-- 64 free places
pub places-none : (ends moves : ℕ) (w : Watch)
    → ArePlaces ends moves w (map kept_slot (replicate 64 None))
places-none ends moves w = record {
  wide = refl;
  ends = λ i k found is. absurd (free 64 i k found);
  moves = λ i k found is. absurd (free 64 i k found);
  watched = λ i k found c clear. absurd (free 64 i k found);
}
  where
    free : (n i : ℕ) (k : KeptSlot) → slice_get (map kept_slot (replicate n None)) i
        ≡ Some (Some k) → ⊥
    free zero i k found = cc
    free (suc n) zero k found = cc
    free (suc n) (suc i) k found = free n i k found

-- ---- one place

-- a set goes on marking the slots, after another thing was written at a place
marked-set : (test : KeptSlot → Bool) (old new : ℕ) (ks : List (Option KeptSlot)) (place : ℕ)
    (o : Option KeptSlot) → ((i : ℕ) → i ≢ place → has new i ≡ has old i)
    → (passes test o ≡ true → has new place ≡ true) → MarksPassing test old ks
    → MarksPassing test new (slice_set ks place o)
marked-set test old new ks place o others here marked i k found is =
    elim (get-put ks place i o (Some k) found) [
      | inl there ↦ rw there.0 (here (rw (← there.1) is))
      | inr other ↦ others i other.0 ∙ marked i k other.1 is
    ]

-- another thing stands at a place
pub places-set : (ends moves ends' moves' : ℕ) (w w' : Watch) (ks : List (Option KeptSlot))
    (place : ℕ) (o : Option KeptSlot) → ((i : ℕ) → i ≢ place → has ends' i ≡ has ends i)
    → (passes is_ending o ≡ true → has ends' place ≡ true)
    → ((i : ℕ) → i ≢ place → has moves' i ≡ has moves i)
    → (passes can_move o ≡ true → has moves' place ≡ true) → AreWatched w' (slice_set ks place o)
    → ArePlaces ends moves w ks → ArePlaces ends' moves' w' (slice_set ks place o)
places-set ends moves ends' moves' w w' ks place o others here others' here' watched all = record {
  wide = length-set ks place o ∙ all.wide;
  ends = marked-set is_ending ends ends' ks place o others here all.ends;
  moves = marked-set can_move moves moves' ks place o others' here' all.moves;
  watched = watched;
}

-- something was done at a taken slot, and each set has the slot again if it is needed
pub places-done : (does : KeptSlot → Answer × Option KeptSlot) → KeepsSub does
    → (ends moves ends' moves' : ℕ) (w : Watch) (xs : List (Option PreparedSlot)) (i : ℕ)
    (x : PreparedSlot) (o : Option PreparedSlot) (r : Answer)
    → Some x ≡ option_flatten (slice_get xs i) → (r, kept_slot o) ≡ does (slot_of x)
    → ((n : ℕ) → n ≢ i → has ends' n ≡ has ends n)
    → (passes is_ending (kept_slot o) ≡ true → passes is_ending (does (slot_of x)).1 ≡ true
    → has ends' i ≡ true)
    → ((n : ℕ) → n ≢ i → has moves' n ≡ has moves n)
    → (passes can_move (kept_slot o) ≡ true → passes can_move (does (slot_of x)).1 ≡ true
    → has moves' i ≡ true)
    → ArePlaces ends moves w (map kept_slot xs)
    → ArePlaces ends' moves' w (map kept_slot (slice_set xs i o))
places-done does keeps ends moves ends' moves' w xs i x o r there did others here others' here'
    all =
    let ks = map kept_slot xs in
    let same : (does (slot_of x)).1 ≡ kept_slot o =
    sym (ap (λ (p : Answer × Option KeptSlot). p.1) did) in
    rw (map-set kept_slot xs i o)
    (places-set ends moves ends' moves' w w ks i (kept_slot o)
    others (λ is. here is (ap (passes is_ending) same ∙ is))
    others' (λ is. here' is (ap (passes can_move) same ∙ is))
    (watched-left w ks i (slot_of x) (kept_slot o) (kept-there xs i x (taken-there xs i x there))
    (λ j is. (keeps (slot_of x) j (same ∙ is)).0) all.watched) all)

-- after a read with its turn a slot isn't ending
pub read-ends : (number : ℕ) (k : KeptSlot) → passes is_ending (read_turn number k).1 ≡ false
read-ends number k =
    let t : KeptSlot = filled (noticed number k) in
    let still : is_ending t ≡ false = filled-ends (noticed number k) ∙ noticed-still number k in
    elim (slice_get t.queue 0) as
    (λ (o : Option Parcel). passes is_ending (read_if t o).1 ≡ false) [
      | None ↦ still
      | Some p ↦ still
    ]

-- after a close with its turn a slot isn't ending, and nothing can move into its port
pub close-rests : (number : ℕ) (k : KeptSlot)
    → (passes is_ending (close_turn number k).1 ≡ false)
    × (passes can_move (close_turn number k).1 ≡ false)
close-rests number k = by (is_live u.held)
  where
    u : KeptSlot
    u = noticed number k

    by : (x : Bool) → (passes is_ending (option_map filled (close_if number u x).1) ≡ false)
        × (passes can_move (option_map filled (close_if number u x).1) ≡ false)
    by true =
        let t : KeptSlot = record u { held = ended_by u.held Closed number } in
        (filled-ends t, filled-still t)
    by false = (filled-ends u ∙ noticed-still number k, filled-still u)

-- a slot with work is in one of the sets
pub work-marked : (ends moves : ℕ) (w : Watch) (ks : List (Option KeptSlot)) (i : ℕ)
    (k : KeptSlot) → ArePlaces ends moves w ks → slice_get ks i ≡ Some (Some k)
    → has_work k ≡ true → (has ends i || has moves i) ≡ true
work-marked ends moves w ks i k all found works =
    grind (arith, all.ends i k found, all.moves i k found)
