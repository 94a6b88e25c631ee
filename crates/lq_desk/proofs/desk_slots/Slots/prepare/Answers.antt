use Rattle.std.proofs.Common.{◌≡◌, ◌∙◌, ◌^◌, ◌-◌, ◌+◌, ℕ, Bool, List, Option, Some, false, inl, inr, map, ap}
use Rattle.std.specs.Prelude.{slice_get}
use Rattle.std.specs.List.{AllByRecursion}
use Rattle.std.proofs.lemmas.Bool.{both_ways}
use Rattle.lq_volume.specs.declared.change.Change.{Change}
use Rattle.lq_volume.specs.State.{State}
use Rattle.lq_desk_sub.specs.declared.slot_set.SlotSet.{SlotSet}
use Rattle.lq_desk_sub.specs.SlotSet.{has, IsEmpty}
use Rattle.lq_desk_sub.specs.Visits.{Visits}
use Rattle.lq_desk.specs.declared.desk_slots.Preparation.{Preparation}
use Rattle.lq_desk.specs.DeskState.{IsFew}
use Rattle.lq_desk.specs.Slot.{PreparedSlot, slot_of}
use Rattle.lq_desk.specs.Words.{MayPrepare, Prepares}
use Rattle.lq_desk.proofs.FewLemmas.{few-there}
use Rattle.lq_desk.proofs.PassLemmas.{visits-alike, visits-from}
use Rattle.lq_desk.proofs.SlotsLemmas.{kept-there, kept_slot}
use Rattle.lq_desk.proofs.desk_slots.Slots.prepare.Goals as goal

-- what is kept of each slot stays
alike : (s : State) (c : Change) (p : ℕ → Bool) (xs ys : List (Option PreparedSlot))
    (a b : Preparation) → Visits MayPrepare (Prepares s c) p xs ys a b
    → map kept_slot ys ≡ map kept_slot xs
alike s c p xs ys a b v =
    visits-alike MayPrepare (Prepares s c) p xs ys a b v slot_of (λ i x y d. d.kept)

pub invariant_of-self : goal.invariant_of-self
invariant_of-self c = rw (alike _ _ _ _ _ _ _ c.visit.ensures.visits) c.self.invariant

pub invariant_of-self-2 : goal.invariant_of-self-2
invariant_of-self-2 c = rw (alike _ _ _ _ _ _ _ c.visit.ensures.visits) c.self.invariant

pub returns-then-state-clause-kept : goal.returns-then-state-clause-kept
returns-then-state-clause-kept c =
    alike _ _ _ _ _ _ _ c.visit.ensures.visits ∙ ap (map kept_slot) c.self.view_is

pub returns-clause-kept : goal.returns-clause-kept
returns-clause-kept c =
    alike _ _ _ _ _ _ _ c.visit.ensures.visits ∙ ap (map kept_slot) c.self.view_is

-- a slot has made few messages, and isn't in the set at first
may-first : (xs ys : List (Option PreparedSlot)) (none : SlotSet) → xs ≡ ys
    → AllByRecursion (IsFew (2 ^ 63 - 1)) (map kept_slot ys) → IsEmpty (has none.word) → (i : ℕ)
    (x : PreparedSlot) → slice_get xs i ≡ Some (Some x)
    → MayPrepare (record { prepared = none; full = false }) i x
may-first xs ys none view few empty i x at = record {
  few = few-there xs i x (rw view few) at;
  outside = empty i;
}

pub visit-requires : goal.visit-requires
visit-requires c = record {
  allowed = λ i x set at.
      may-first _ c.args.self.now c.new.result c.self.view_is c.requires.few c.new.ensures i x at;
}

pub returns-clause-prepared : goal.returns-clause-prepared
returns-clause-prepared c i y at live =
    let xs = c.self.inside.table in
    let s = c.args.planned.now.before in
    let change = c.args.planned.now.change in
    let v = c.visit.ensures.visits in
    let f = visits-from MayPrepare (Prepares s change) _ xs _ _ _ v i y at in
    elim f.2 [
      | inl d ↦ d.1.made c.if-state.false live
      | inr d ↦
          let none = (v.allowed i f.0 (λ z h. d.0) (may-first xs c.args.self.now c.new.result
          c.self.view_is c.requires.few c.new.ensures i f.0 f.1)).outside in
          record {
            some = λ is. absurd (both_ways _ none is);
            none = λ out. c.self.invariant.watched i (slot_of y)
                (rw d.1 at (kept-there xs i f.0 f.1)) change
                (rw (← c.change.ensures, ← c.slots_for-asked.ensures) d.0)
                s (y.sub.held.sent + 1) c.applied.ensures.volume
                c.applied.ensures.lawful;
          }
    ]
