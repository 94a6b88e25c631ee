-- The turns of a read and of a close are what is done at their slot.
use Rattle.std.proofs.Common.{◌≡◌, ℕ, ◌-◌, List, refl, ap, ◌∙◌, Some, None, Option, Bool, true, false}
use Rattle.std.proofs.lemmas.List.{set-set}
use Rattle.lq_update.specs.declared.mark.Cause.TheVariants.{Closed}
use Rattle.lq_desk_world.specs.declared.event.Event.{Event}
use Rattle.lq_desk_world.specs.declared.event.Event.TheVariants.{Take, Notice, Close}
use Rattle.lq_desk_world.specs.Events.{Answer}
use Rattle.lq_desk_world.specs.Turns.{places_at, put_events}
use Rattle.lq_desk_sub.specs.Held.{is_live, ended_by}
use Rattle.lq_desk.specs.Slot.{KeptSlot, close_if, close_slot, filled, noticed}
use Rattle.lq_desk.specs.Act.{close_turn, read_turn}
use Rattle.lq_desk.specs.DeskState.{DeskState, kept_at, at_index, at_kept, kept_outcome}
use Rattle.lq_desk.specs.KeptTurn.{kept_ports, kept_turn, kept_after}
use Rattle.lq_desk.proofs.EventLemmas.{filled-taken, kept-set, notice-taken, places-free}
use Rattle.lq_desk.proofs.PutLemmas.{noticed-keeps}

-- a close leaves the slot taken, with its port
close-some : (n : ℕ) (s : KeptSlot)
    → (t : KeptSlot) × ((close_slot n s).1 ≡ Some t) × (t.port ≡ s.port)
close-some n s = by (is_live s.held)
  where
    by : (x : Bool) → (t : KeptSlot) × ((close_if n s x).1 ≡ Some t) × (t.port ≡ s.port)
    by true = (record s { held = ended_by s.held Closed n }, refl, refl)
    by false = (s, refl, refl)

-- a notice, puts and a read
pub read-events : (k : DeskState) (slot : ℕ)
    → kept_outcome (kept_after k (kept_turn k (Take slot)).before) (Take slot)
    ≡ at_kept k slot (read_turn k.volume.number)
read-events k slot = by (kept_at k slot) refl
  where
    places : List Event
    places = put_events slot (places_at (kept_ports k) slot)

    by : (o : Option KeptSlot) → kept_at k slot ≡ o
        → kept_outcome (kept_after (kept_outcome k (Notice slot)).1 places) (Take slot)
        ≡ at_index k (slot - 1) o (read_turn k.volume.number)
    by None is =
        let still : (kept_outcome k (Notice slot)).1 ≡ k = rw is in
        ap (λ j. kept_outcome (kept_after j places) (Take slot)) still
        ∙ (ap (λ n. kept_outcome (kept_after k (put_events slot n)) (Take slot))
        (places-free k slot is) ∙ rw is)
    by (Some s) is =
        let u = noticed k.volume.number s in
        let port = (noticed-keeps k.volume.number s).2 in
        ap (λ j. kept_outcome (kept_after j places) (Take slot)) (notice-taken k slot s is)
        ∙ (ap (λ j. kept_outcome j (Take slot)) (filled-taken k slot s u is port)
        ∙ rw (kept-set k slot s is (filled u), set-set k.slots (slot - 1) (Some (filled u)) _))

-- a notice, a close and puts
pub close-events : (k : DeskState) (slot : ℕ) → (
  (kept_outcome (kept_outcome k (Notice slot)).1 (Close slot)).0,
  kept_after (kept_outcome (kept_outcome k (Notice slot)).1 (Close slot)).1
      (put_events slot (places_at (kept_ports k) slot)),
)
    ≡ at_kept k slot (close_turn k.volume.number)
close-events k slot = by (kept_at k slot) refl
  where
    places : List Event
    places = put_events slot (places_at (kept_ports k) slot)

    close : DeskState → Answer × DeskState
    close j = (
      (kept_outcome j (Close slot)).0,
      kept_after (kept_outcome j (Close slot)).1 places,
    )

    by : (o : Option KeptSlot) → kept_at k slot ≡ o → close (kept_outcome k (Notice slot)).1
        ≡ at_index k (slot - 1) o (close_turn k.volume.number)
    by None is = rw (places-free k slot is, is, is)
    by (Some s) is =
        let number = k.volume.number in
        let u = noticed number s in
        let t = close-some number u in
        rw (
          notice-taken k slot s is,
          kept-set k slot s is u,
          t.1,
          set-set k.slots (slot - 1) (Some u) (Some t.0),
          filled-taken k slot s t.0 is (t.2 ∙ (noticed-keeps number s).2),
        )
