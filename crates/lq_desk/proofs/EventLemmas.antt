-- The events of one slot: what they do there, and what they keep.
use Rattle.std.proofs.Common.{◌≡◌, ℕ, zero, suc, ◌-◌, List, ap, ◌∙◌, sym, arith, Some, None, Option}
use Rattle.std.specs.Prelude.{slice_set}
use Rattle.std.specs.Option.{option_map}
use Rattle.std.proofs.lemmas.List.{set-get_or, set-set}
use Rattle.std.proofs.lemmas.Option.{get_or_from_slice_get, slice_get-map, slice_get_within}
use Rattle.lq_desk_world.specs.declared.event.Event.TheVariants.{Put, Notice}
use Rattle.lq_desk_world.specs.Turns.{places_at, put_events}
use Rattle.lq_desk.specs.Slot.{KeptSlot, notice_slot, after_put, after_puts, filled, noticed}
use Rattle.lq_desk.specs.DeskState.{DeskState, kept_at, kept_outcome}
use Rattle.lq_desk.specs.KeptTurn.{slot_port, kept_ports, kept_after}
use Rattle.lq_desk.proofs.ListLemmas.{get-set, slot-there}
use Rattle.lq_desk.proofs.PutLemmas.{put-some}

-- these slots in place of those that are kept
abbrev pub at-slots : DeskState → List (Option KeptSlot) → DeskState
at-slots k ks = record k { slots = ks }

-- this in a slot, in place of what is kept there
abbrev pub with_kept : DeskState → ℕ → Option KeptSlot → DeskState
with_kept k slot o = at-slots k (slice_set k.slots (slot - 1) o)

-- ---- at a taken slot

module _ (k : DeskState) (slot : ℕ) (s : KeptSlot) (is : kept_at k slot ≡ Some s) where
  -- what is written there stands there
  pub kept-set : (t : KeptSlot) → kept_at (with_kept k slot (Some t)) slot ≡ Some t
  kept-set t =
      let there = slot-there k.slots slot s is in
      let set = get-set k.slots (slot - 1) (Some t)
      (slice_get_within k.slots (slot - 1) (Some s) there) in
      grind arith

  -- a notice notices
  pub notice-taken : (kept_outcome k (Notice slot)).1
      ≡ with_kept k slot (Some (noticed k.volume.number s))
  notice-taken =
      let some : (notice_slot k.volume.number s).1 ≡ Some (noticed k.volume.number s) =
      grind arith in
      rw (is, some)

  -- its port has these places
  pub places-taken : places_at (kept_ports k) slot ≡ s.port
  places-taken = grind (arith, slice_get-map (option_map slot_port) k.slots (slot - 1))

-- several puts are those puts
pub puts-taken : (n : ℕ) (k : DeskState) (slot : ℕ) (s : KeptSlot) → kept_at k slot ≡ Some s
    → kept_after k (put_events slot n) ≡ with_kept k slot (Some (after_puts n s))
puts-taken zero k slot s is =
    ap (at-slots k) (sym (ap (slice_set k.slots (slot - 1)) (sym (get_or_from_slice_get k.slots
    (slot - 1) (Some s) (Some s) (slot-there k.slots slot s is)))
    ∙ set-get_or k.slots (slot - 1) (Some s)))
puts-taken (suc n) k slot s is =
    let t = after_put s in
    let first : (kept_outcome k (Put slot)).1 ≡ with_kept k slot (Some t) = rw (is, put-some s) in
    ap (λ j. kept_after j (put_events slot n)) first
    ∙ (puts-taken n (with_kept k slot (Some t)) slot t (kept-set k slot s is t)
    ∙ ap (at-slots k) (set-set k.slots (slot - 1) (Some t) (Some (after_puts n t))))

-- as many puts as its port has places fill it, after it was altered
pub filled-taken : (k : DeskState) (slot : ℕ) (s t : KeptSlot) → kept_at k slot ≡ Some s
    → t.port ≡ s.port
    → kept_after (with_kept k slot (Some t)) (put_events slot (places_at (kept_ports k) slot))
    ≡ with_kept k slot (Some (filled t))
filled-taken k slot s t is port =
    rw (places-taken k slot s is, ← port) (puts-taken t.port (with_kept k slot (Some t)) slot t
    (kept-set k slot s is t) ∙ ap (at-slots k) (set-set k.slots (slot - 1) (Some t) _))

-- ---- at a free slot

-- it has no places
pub places-free : (k : DeskState) (slot : ℕ) → kept_at k slot ≡ None
    → places_at (kept_ports k) slot ≡ 0
places-free k slot is =
    grind (arith, slice_get-map (option_map slot_port) k.slots (slot - 1))
