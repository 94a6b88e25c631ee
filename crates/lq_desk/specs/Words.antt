-- Sets of slots: a slot that isn't in a set has no work to do.
use Rattle.std.specs.Prelude.{◌≡◌, ◌<◌, ◌^◌, ℕ, List, [], Bool, true, false, Option, Some, length, slice_get}
use Rattle.lq_volume.specs.declared.change.Change.{Change}
use Rattle.lq_volume.specs.State.{State}
use Rattle.lq_desk_sub.specs.declared.watch.Watch.{Watch}
use Rattle.lq_desk_sub.specs.Held.{is_live, messages_due}
use Rattle.lq_desk_sub.specs.SlotSet.{has}
use Rattle.lq_desk_sub.specs.Watch.{IsWatched}
use Rattle.lq_desk.specs.declared.desk_slots.Preparation.{Preparation}
use Rattle.lq_desk.specs.Slot.{KeptSlot, PreparedSlot, can_move, is_ending, slot_of}

-- a set has the place of each slot that passes a test
abbrev pub MarksPassing : {T : Type 0} → (T → Bool) → ℕ → List (Option T) → Type 0
MarksPassing {T} test set slots = (i : ℕ) (x : T) → slice_get slots i ≡ Some (Some x)
    → test x ≡ true → has set i ≡ true

-- what each subscription asks is watched at its slot
abbrev pub AreWatched : Watch → List (Option KeptSlot) → Type 0
AreWatched w ks = (i : ℕ) (k : KeptSlot) → slice_get ks i ≡ Some (Some k)
    → IsWatched w i k.held.query k.held.flags

-- there are 64 places; the sets have the slots that are ending, and those whose port could take a
-- parcel; and all are watched
pub record ArePlaces (ending movable : ℕ) (w : Watch) (ks : List (Option KeptSlot)) : Type 0 where
  pub wide : length ks ≡ 64
  pub ends : MarksPassing is_ending ending ks
  pub moves : MarksPassing can_move movable ks
  pub watched : AreWatched w ks

-- ---- the messages of a change

-- they are made in the slot
pub record AreMadeIn (s : State) (c : Change) (p : PreparedSlot) : Type 0 where
  pub ready : p.sub.ready ≡ messages_due s c p.sub.held
  pub before : p.sub.before ≡ s.number

-- they are made in a slot of the set, and the change has none for another
pub record IsPreparedBy (s : State) (c : Change) (is_in : Bool) (p : PreparedSlot) : Type 0 where
  pub some : is_in ≡ true → AreMadeIn s c p
  pub none : is_in ≡ false → messages_due s c p.sub.held ≡ []

-- that of each live slot
abbrev pub ArePrepared : State → Change → ℕ → List (Option PreparedSlot) → Type 0
ArePrepared s c set slots = (i : ℕ) (p : PreparedSlot) → slice_get slots i ≡ Some (Some p)
    → is_live p.sub.held ≡ true → IsPreparedBy s c (has set i) p

-- a slot that messages may be made in: it has made few, and isn't in the set yet
pub record MayPrepare (s : Preparation) (index : ℕ) (p : PreparedSlot) : Type 0 where
  pub few : p.sub.held.sent < 2 ^ 63
  pub outside : has s.prepared.word index ≡ false

-- what is kept of the slot stays; if memory didn't run out and the slot is live, they are made
-- there
pub record Prepares (s : State) (c : Change) (t : Preparation) (index : ℕ) (p q : PreparedSlot)
    : Type 0 where
  pub kept : slot_of q ≡ slot_of p
  pub made : t.full ≡ false → is_live q.sub.held ≡ true
      → IsPreparedBy s c (has t.prepared.word index) q
