-- How many messages a slot has made.
use Rattle.std.proofs.Common.{◌≡◌, ℕ, ◌+◌, ◌-◌, ◌*◌, ◌≤◌, ◌<◌, ◌^◌, List, [], ◌∷◌, refl, map, arith, Some, None, Option}
use Rattle.std.specs.Prelude.{slice_get}
use Rattle.std.specs.Option.{option_map, option_flatten}
use Rattle.std.specs.List.{AllByRecursion}
use Rattle.lq_volume.specs.declared.change.Change.{Change as Change_}
use Rattle.lq_volume.specs.State.{State, IsVolume}
use Rattle.lq_volume.specs.Change.{IsLawful}
use Rattle.lq_update.specs.Laws.{StepsAreFew}
use Rattle.lq_desk_world.specs.Events.{Answer}
use Rattle.lq_desk.specs.Slot.{KeptSlot, PreparedSlot, slot_after}
use Rattle.lq_desk.specs.Act.{outcome_at}
use Rattle.lq_desk.specs.DeskState.{IsFew}
use Rattle.lq_desk.proofs.ListLemmas.{all-get}
use Rattle.lq_desk.proofs.PutLemmas.{KeepsSub}
use Rattle.lq_desk.proofs.SlotsLemmas.{kept-there, kept_slot, taken-there}

-- what makes few messages in a slot makes few in all
pub few-map : (m n : ℕ) (f : KeptSlot → KeptSlot)
    → ((k : KeptSlot) → k.held.sent ≤ m → (f k).held.sent ≤ n) → (ks : List (Option KeptSlot))
    → AllByRecursion (IsFew m) ks → AllByRecursion (IsFew n) (map (option_map f) ks)
few-map m n f keeps [] h = tt
few-map m n f keeps (None ∷ ks) h = (tt, few-map m n f keeps ks h.1)
few-map m n f keeps (Some k ∷ ks) h = (keeps k h.0, few-map m n f keeps ks h.1)

-- few messages are few for a higher bound
pub few-more : (m n : ℕ) (ks : List (Option KeptSlot)) → m ≤ n → AllByRecursion (IsFew m) ks
    → AllByRecursion (IsFew n) ks
few-more m n [] le h = tt
few-more m n (None ∷ ks) le h = (tt, few-more m n ks le h.1)
few-more m n (Some k ∷ ks) le h = (omega (arith, le, h.0), few-more m n ks le h.1)

-- a change makes at most three messages in a slot
pub few-changed : StepsAreFew → (s : State) (c : Change_) (k : KeptSlot) → IsVolume s
    → IsLawful s c → k.held.sent ≤ 3 * s.number → (slot_after s c k).held.sent ≤ 3 * (s.number + 1)
few-changed steps s c k v lawful le =
    let few = steps k.held.query k.held.flags s c (k.held.sent + 1) v lawful in
    grind arith

-- what makes no message in a slot makes none at an index of the slots
pub few-outcome : (n : ℕ) (does : KeptSlot → Answer × Option KeptSlot) → KeepsSub does
    → (ks : List (Option KeptSlot)) (i : ℕ) → AllByRecursion (IsFew n) ks
    → IsFew n (outcome_at does (option_flatten (slice_get ks i))).1
few-outcome n does keeps ks i h = by (slice_get ks i) refl
  where
    left : (k : KeptSlot) (o : Option KeptSlot) → (does k).1 ≡ o → k.held.sent ≤ n → IsFew n o
    left k None is few = tt
    left k (Some j) is few = omega (arith, few, (keeps k j is).1)

    by : (o : Option (Option KeptSlot)) → slice_get ks i ≡ o
        → IsFew n (outcome_at does (option_flatten o)).1
    by None found = tt
    by (Some None) found = tt
    by (Some (Some k)) found = left k (does k).1 refl (all-get (IsFew n) ks i (Some k) h found)

-- a slot has made few messages, where all have
pub few-there : (xs : List (Option PreparedSlot)) (i : ℕ) (p : PreparedSlot)
    → AllByRecursion (IsFew (2 ^ 63 - 1)) (map kept_slot xs) → slice_get xs i ≡ Some (Some p)
    → p.sub.held.sent < 2 ^ 63
few-there xs i p few found =
    let one : p.sub.held.sent ≤ 2 ^ 63 - 1 =
    all-get (IsFew (2 ^ 63 - 1)) _ i _ few (kept-there xs i p found) in
    omega (arith, one)

-- so has one that is read as taken
pub few-at : (xs zs : List (Option PreparedSlot)) (i : ℕ) (p : PreparedSlot) → xs ≡ zs
    → Some p ≡ option_flatten (slice_get xs i)
    → AllByRecursion (IsFew (2 ^ 63 - 1)) (map kept_slot zs) → p.sub.held.sent < 2 ^ 63
few-at xs zs i p view is few = few-there xs i p (rw view few) (taken-there xs i p is)
