-- What is so of all that a desk keeps, after each event.
use Rattle.std.proofs.Common.{◌≡◌, ℕ, zero, suc, ◌+◌, ◌*◌, ◌-◌, ◌^◌, List, [], ◌∷◌, refl, ap, ◌∙◌, arith, Some, None, Option, map}
use Rattle.std.specs.Prelude.{slice_get, slice_set, replicate, ◌==◌}
use Rattle.std.specs.Option.{option_map, option_flatten}
use Rattle.std.specs.List.{AllByRecursion}
use Rattle.std.proofs.lemmas.Bool.{cond_both}
use Rattle.std.proofs.lemmas.List.{length-map, length-set, map-set}
use Rattle.lq_predicate.specs.Query.{Query}
use Rattle.lq_volume.specs.declared.change.Change.{Change as Change_}
use Rattle.lq_volume.specs.State.{State, IsVolume}
use Rattle.lq_volume.specs.Change.{IsLawful, after}
use Rattle.lq_volume.specs.Laws.{ChangesCount}
use Rattle.lq_update.specs.declared.open_options.OpenOptions.{OpenOptions}
use Rattle.lq_update.specs.Laws.{StepsAreFew}
use Rattle.lq_desk_world.specs.World.{taken_before_free}
use Rattle.lq_desk_world.specs.Events.{Answer}
use Rattle.lq_desk_world.specs.Turns.{all_puts, notices}
use Rattle.lq_desk.specs.Slot.{KeptSlot, PreparedSlot, slot_of, slot_after, filled, fresh_slot, noticed}
use Rattle.lq_desk.specs.Act.{outcome_at, outcome_of}
use Rattle.lq_desk.specs.DeskState.{DeskState, IsKept, IsFew, opened, changed, at_kept}
use Rattle.lq_desk.specs.KeptTurn.{kept_after, kept_ports}
use Rattle.lq_desk.proofs.ListLemmas.{all-set}
use Rattle.lq_desk.proofs.PutLemmas.{KeepsSub}
use Rattle.lq_desk.proofs.SlotsLemmas.{kept_slot, set-free}
use Rattle.lq_desk.proofs.FewLemmas.{few-changed, few-map, few-more, few-outcome}
use Rattle.lq_desk.proofs.TurnLemmas.{filled-all, noticed-all}

-- ---- what is kept is as it has to be

-- free slots have made no messages
few-free : (m n : ℕ) → AllByRecursion (IsFew m) (map kept_slot (replicate n None))
few-free m zero = tt
few-free m (suc n) = (tt, few-free m n)

-- so is what a new desk keeps
pub IsKept-new : (s : State)
    → IsKept (record { volume = s; openings = 0; slots = map kept_slot (replicate 64 None) })
IsKept-new s = record { slots = refl; few = few-free (3 * s.number) 64 }

-- after a change
pub IsKept-change : StepsAreFew → ChangesCount → (k : DeskState) (c : Change_) → IsKept k
    → IsVolume k.volume → IsLawful k.volume c → IsKept (changed k c)
IsKept-change steps count k c d v lawful =
    let n = k.volume.number in
    let one : (after k.volume c).number ≡ n + 1 = count k.volume (c ∷ []) in
    record {
      slots = length-map k.slots _ ∙ d.slots;
      few = rw one (few-map (3 * n) (3 * (n + 1)) (slot_after k.volume c)
          (λ s. few-changed steps k.volume c s v lawful) k.slots d.few);
    }

-- after an opening
pub IsKept-open : (k : DeskState) (q : Query) (o : OpenOptions) → IsKept k
    → IsKept (opened k (fresh_slot q k.volume.number o))
IsKept-open k q o d =
    let s = fresh_slot q k.volume.number o in
    record {
      slots = length-set k.slots (taken_before_free k.slots) (Some s) ∙ d.slots;
      few = all-set (IsFew (3 * k.volume.number)) k.slots (taken_before_free k.slots)
          (Some s) d.few (omega arith);
    }

-- after what is done at a slot, where it makes no message
pub IsKept-at : (k : DeskState) (slot : ℕ) (does : KeptSlot → Answer × Option KeptSlot)
    (r : Answer) (ks : List (Option KeptSlot)) → KeepsSub does → IsKept k
    → (r, ks) ≡ outcome_of does k.slots slot → IsKept (record k { slots = ks })
IsKept-at k slot does r ks keeps d is =
    let n = 3 * k.volume.number in
    let o = (outcome_at does (option_flatten (slice_get k.slots (slot - 1)))).1 in
    let here : ks ≡ (outcome_of does k.slots slot).1 =
    ap (λ (p : Answer × List (Option KeptSlot)). p.1) is in
    rw here (cond_both (slot == 0) _ _
    (λ (p : Answer × List (Option KeptSlot)). IsKept (record k { slots = p.1 })) (λ none. d)
    (λ some. record {
      slots = length-set k.slots (slot - 1) o ∙ d.slots;
      few = all-set (IsFew n) k.slots (slot - 1) o d.few
          (few-outcome n does keeps k.slots (slot - 1) d.few);
    }))

-- after what is done in all slots, where it makes no message
pub IsKept-map : (k : DeskState) (f : KeptSlot → KeptSlot) (ks : List (Option KeptSlot))
    → ((s : KeptSlot) → (f s).held.sent ≡ s.held.sent) → IsKept k
    → ks ≡ map (option_map f) k.slots → IsKept (record k { slots = ks })
IsKept-map k f ks keeps d is =
    let n = 3 * k.volume.number in
    rw is (record {
      slots = length-map k.slots _ ∙ d.slots;
      few = few-map n n f (λ s few. omega (arith, few, keeps s)) k.slots d.few;
    })

-- each slot of a desk has made few messages
pub few-desk : (k : DeskState) → IsVolume k.volume → IsKept k
    → AllByRecursion (IsFew (2 ^ 63 - 1)) k.slots
few-desk k v d = few-more (3 * k.volume.number) (2 ^ 63 - 1) k.slots
    (omega (arith, v.numbered.limit, v.numbered.number)) d.few

-- ---- what was done, by the desk as it was seen before

-- what is done at a slot
pub at-view : (does : ℕ → KeptSlot → Answer × Option KeptSlot) (k j : DeskState) (n slot : ℕ)
    (r : Answer) (ks : List (Option KeptSlot)) → k ≡ j → n ≡ k.volume.number
    → (r, ks) ≡ outcome_of (does n) k.slots slot
    → (r, record k { slots = ks }) ≡ at_kept j slot (does j.volume.number)
at-view does k j n slot r ks view same is =
    let free = set-free k.slots (slot - 1) in
    let did : (r, ks) ≡ outcome_of (does k.volume.number) k.slots slot = rw (← same) is in
    rw (← view)
    (ap (λ (p : Answer × List (Option KeptSlot)). (p.0, record k { slots = p.1 })) did
    ∙ grind (arith, free))

-- the notices of all slots
pub noticed-view : (k j : DeskState) (n : ℕ) (ks : List (Option KeptSlot)) → k ≡ j
    → n ≡ k.volume.number → ks ≡ map (option_map (noticed n)) k.slots
    → record k { slots = ks } ≡ kept_after j (notices (kept_ports j))
noticed-view k j n ks view same is = rw (← view, is, same) (noticed-all k)

-- each port filled
pub filled-view : (k j : DeskState) (ks : List (Option KeptSlot)) → k ≡ j
    → ks ≡ map (option_map filled) k.slots
    → record k { slots = ks } ≡ kept_after j (all_puts (kept_ports j))
filled-view k j ks view is = rw (← view, is) (filled-all k)

-- an opening puts a new subscription into the first free slot
pub opened-is : (v : State) (n : ℕ) (xs ys : List (Option PreparedSlot)) (place : ℕ)
    (p : PreparedSlot) (s : KeptSlot) → ys ≡ slice_set xs place (Some p)
    → place ≡ taken_before_free (map kept_slot xs) → slot_of p ≡ s
    → record { volume = v; openings = n + 1; slots = map kept_slot ys }
    ≡ opened (record { volume = v; openings = n; slots = map kept_slot xs }) s
opened-is v n xs ys place p s is free same =
    rw (is, map-set kept_slot xs place (Some p), same, free)
