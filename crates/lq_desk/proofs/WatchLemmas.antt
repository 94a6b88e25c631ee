-- Which slots a change may have messages for: what is watched stays watched, since no act alters
-- a query or its flags.
use Rattle.std.proofs.Common.{◌≡◌, ◌≢◌, ◌∙◌, ℕ, List, refl, sym, subst, Some, Option, inl, inr, arith}
use Rattle.std.specs.Prelude.{slice_get, slice_set}
use Rattle.lq_predicate.specs.Query.{Query}
use Rattle.lq_volume.specs.declared.change.Change.{Change}
use Rattle.lq_update.specs.declared.open_options.Flags.{Flags}
use Rattle.lq_desk_sub.specs.declared.watch.Watch.{Watch}
use Rattle.lq_desk_sub.specs.Passing.{TellsNothing}
use Rattle.lq_desk_sub.specs.SlotSet.{has}
use Rattle.lq_desk_sub.specs.Watch.{IsWatched, slots_for}
use Rattle.lq_desk.specs.Slot.{KeptSlot, PreparedSlot, committed_slot}
use Rattle.lq_desk.specs.Words.{AreWatched}
use Rattle.lq_desk.proofs.ListLemmas.{get-put}
use Rattle.lq_desk.proofs.PutLemmas.{asking}

-- a slot that asked for the same was at this index
abbrev HadAsked : List (Option KeptSlot) → ℕ → KeptSlot → Type 0
HadAsked ks i j =
    (k : KeptSlot) × (slice_get ks i ≡ Some (Some k)) × (asking j.held ≡ asking k.held)

-- each slot asks for the same as one that was at its place
pub watched-from : (w : Watch) (ks js : List (Option KeptSlot))
    → ((i : ℕ) (j : KeptSlot) → slice_get js i ≡ Some (Some j) → HadAsked ks i j)
    → AreWatched w ks → AreWatched w js
watched-from w ks js from watched i j found c out =
    let f = from i j found in
    subst (λ (a : Query × Flags). TellsNothing a.0 a.1 c) (sym f.2) (watched i f.0 f.1 c out)

-- at a taken slot nothing is left, or what it asks for
pub watched-left : (w : Watch) (ks : List (Option KeptSlot)) (i : ℕ) (k : KeptSlot)
    (o : Option KeptSlot) → slice_get ks i ≡ Some (Some k)
    → ((j : KeptSlot) → o ≡ Some j → asking j.held ≡ asking k.held) → AreWatched w ks
    → AreWatched w (slice_set ks i o)
watched-left w ks i k o there keeps = watched-from w ks (slice_set ks i o) (λ n j found.
    elim (get-put ks i n o (Some j) found) [
      | inl here ↦ rw here.0 (k, there, keeps j (sym here.1))
      | inr other ↦ (j, other.1, refl)
    ])

-- a subscription stands at a place, and is watched there
pub watched-set : (old new : Watch) (ks : List (Option KeptSlot)) (place : ℕ) (k : KeptSlot)
    → IsWatched new place k.held.query k.held.flags
    → ((c : Change) (i : ℕ) → i ≢ place
    → has (slots_for new c).word i ≡ has (slots_for old c).word i)
    → AreWatched old ks → AreWatched new (slice_set ks place (Some k))
watched-set old new ks place k here others watched i j found c out =
    elim (get-put ks place i (Some k) (Some j) found) [
      | inl there ↦
          let same : j ≡ k = cc in
          rw same (here c (rw there.0 at out))
      | inr other ↦ watched i j other.1 c (sym (others c i other.0) ∙ out)
    ]

-- messages are committed
pub committed-asking : (p : PreparedSlot) → asking (committed_slot p).sub.held ≡ asking p.sub.held
committed-asking p = grind arith
