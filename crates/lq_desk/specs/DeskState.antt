-- What a desk keeps, its answer to each event by that, and which worlds it shows. Only the clauses
-- of private functions name it: those of `Desk` name the world.
use Rattle.std.specs.Prelude.{◌≡◌, ◌⊎◌, ℕ, ◌+◌, ◌-◌, ◌*◌, ◌≤◌, List, length, map, ◌==◌, nat_le, nat_lt, Option, Some, None, slice_get, slice_set, if◌then◌else◌}
use Rattle.std.specs.Option.{option_map, option_flatten}
use Rattle.std.specs.List.{AllByRecursion}
use Rattle.lq_value.specs.declared.refusal.Refusal.{Refusal}
use Rattle.lq_value.specs.declared.refusal.Refusal.TheVariants.{NotOpen, NoMemory}
use Rattle.lq_value.specs.Refusal.{first_refusal}
use Rattle.lq_volume.specs.declared.change.Change.{Change as Change_}
use Rattle.lq_volume.specs.State.{State}
use Rattle.lq_volume.specs.Change.{after, refused, node_of}
use Rattle.lq_volume.specs.Result.{result_of}
use Rattle.lq_volume.specs.Book.{Book, state_of}
use Rattle.lq_update.specs.Options.{options_of}
use Rattle.lq_update.specs.declared.mark.Mark.{Mark}
use Rattle.lq_desk_world.specs.World.{World, Subscribed, Ending, updates_due, waiting, in_port, taken_before_free}
use Rattle.lq_desk_world.specs.declared.event.Event.{Event}
use Rattle.lq_desk_world.specs.declared.event.Event.TheVariants.{Change, Open, OpenBy, Put, Take, HangUp, Notice, Close, Finish}
use Rattle.lq_desk_world.specs.declared.event.Act.{Act}
use Rattle.lq_desk_world.specs.declared.event.Act.TheVariants as act
use Rattle.lq_desk_world.specs.Events.{Answer, Changed, Opened, Refused, opening_refusals}
use Rattle.lq_desk_world.specs.Fair.{IsFairWorld}
use Rattle.lq_desk_sub.specs.Held.{Held}
use Rattle.lq_desk.specs.Slot.{KeptSlot, fresh_slot, slot_after}
use Rattle.lq_desk.specs.Act.{act_of}

-- the volume, the number of openings so far, and the slots: slot k is at index k - 1
pub record DeskState : Type 0 where
  pub volume : State
  pub openings : ℕ
  pub slots : List (Option KeptSlot)

-- ---- a change

-- the state after a change: each live subscription gets its messages
abbrev pub changed : DeskState → Change_ → DeskState
changed k c = record k {
  volume = after k.volume c;
  slots = map (option_map (slot_after k.volume c)) k.slots;
}

-- the outcome of a change that is refused or made
abbrev pub change_if : DeskState → Change_ → Option Refusal → Answer × DeskState
change_if k c (Some e) = (Refused e, k)
change_if k c None =
    (Changed (record { change = k.volume.number + 1; node = node_of k.volume c }), changed k c)

-- ---- an opening

-- why an opening is refused: the first that fits
abbrev pub opening_refusal : DeskState → ℕ → ℕ → Option Refusal
opening_refusal k port backlog =
    first_refusal
    (opening_refusals (nat_le (length k.slots) (taken_before_free k.slots)) k.openings
    k.volume.limit port backlog)

-- the state after an opening: the first free slot is taken
abbrev pub opened : DeskState → KeptSlot → DeskState
opened k s = record k {
  openings = k.openings + 1;
  slots = slice_set k.slots (taken_before_free k.slots) (Some s);
}

-- the outcome of an opening that is refused or made
abbrev pub open_if : DeskState → KeptSlot → Option Refusal → Answer × DeskState
open_if k s (Some e) = (Refused e, k)
open_if k s None = (
  Opened (taken_before_free k.slots + 1) k.volume.number (result_of s.held.query k.volume),
  opened k s,
)

-- ---- the acts at a slot

-- what is in a slot; slot 0 is free
abbrev pub kept_at : DeskState → ℕ → Option KeptSlot
kept_at k slot = if slot == 0 then None else option_flatten (slice_get k.slots (slot - 1))

-- the outcome of an act at an index that is free or taken
abbrev pub at_index : DeskState → ℕ → Option KeptSlot
    → (KeptSlot → Answer × Option KeptSlot) → Answer × DeskState
at_index k place None does = (Refused NotOpen, k)
at_index k place (Some s) does =
    ((does s).0, record k { slots = slice_set k.slots place (does s).1 })

-- the outcome of what is done at a slot
abbrev pub at_kept : DeskState → ℕ → (KeptSlot → Answer × Option KeptSlot) → Answer × DeskState
at_kept k slot does = at_index k (slot - 1) (kept_at k slot) does

-- the outcome of an act at a slot
abbrev pub kept_act : DeskState → ℕ → Act → Answer × DeskState
kept_act k slot a = at_kept k slot (act_of k.volume.number a)

-- ---- all of them

-- the answer to an event in this state, and the state afterwards
abbrev pub kept_outcome : DeskState → Event → Answer × DeskState
kept_outcome k (Change c) = change_if k c (refused k.volume c)
kept_outcome k (Open q port backlog moved) =
    open_if k (fresh_slot q k.volume.number (options_of port backlog moved))
    (opening_refusal k port backlog)
kept_outcome k (OpenBy q o) =
    open_if k (fresh_slot q k.volume.number o) (opening_refusal k o.port o.backlog)
kept_outcome k (Put slot) = kept_act k slot act.Put
kept_outcome k (Take slot) = kept_act k slot act.Take
kept_outcome k (HangUp slot) = kept_act k slot act.HangUp
kept_outcome k (Notice slot) = kept_act k slot act.Notice
kept_outcome k (Close slot) = kept_act k slot act.Close
kept_outcome k (Finish slot) = kept_act k slot act.Finish

-- a change or an opening that nothing else refuses may run out of memory
abbrev pub KeptMayRunOut : DeskState → Event → Type 0
KeptMayRunOut k (Change c) = refused k.volume c ≡ None
KeptMayRunOut k (Open q port backlog moved) = opening_refusal k port backlog ≡ None
KeptMayRunOut k (OpenBy q o) = opening_refusal k o.port o.backlog ≡ None
KeptMayRunOut k (Put slot) = ⊥
KeptMayRunOut k (Take slot) = ⊥
KeptMayRunOut k (HangUp slot) = ⊥
KeptMayRunOut k (Notice slot) = ⊥
KeptMayRunOut k (Close slot) = ⊥
KeptMayRunOut k (Finish slot) = ⊥

-- the event has its outcome, or memory runs out and the state stays the same
abbrev pub KeptStep : DeskState → Event → Answer → DeskState → Type 0
KeptStep k e a l = ((a ≡ (kept_outcome k e).0) × (l ≡ (kept_outcome k e).1))
    ⊎ (KeptMayRunOut k e × (a ≡ Refused NoMemory) × (l ≡ k))

-- ---- the worlds that it shows

-- the mark of a subscription that ended after this many messages
abbrev pub mark_of : ℕ → Ending → Mark
mark_of n e = record { seq = n + 1; change = e.change; cause = e.cause }

-- what the desk holds for a world's subscription
abbrev pub held_for : Book → Subscribed → Held
held_for b s = record {
  query = s.query;
  flags = s.flags;
  opened = s.opened;
  backlog = s.backlog;
  sent = length (updates_due b s);
  messages = waiting b s;
  mark = option_map (mark_of (length (updates_due b s))) s.end;
  mark_out = nat_lt (length (updates_due b s)) s.put;
}

-- the slot of a world's subscription
abbrev pub slot_for : Book → Subscribed → KeptSlot
slot_for b s = record {
  held = held_for b s;
  port = s.port;
  queue = in_port b s;
  hang_up_asked = s.hang_up_asked;
}

-- the state that a desk keeps for this world
abbrev pub kept_of : World → DeskState
kept_of w = record {
  volume = state_of w.book;
  openings = w.openings;
  slots = map (option_map (slot_for w.book)) w.slots;
}

-- this is the state that a desk keeps for this world, and the world is fair
pub record Shows (k : DeskState) (w : World) : Type 0 where
  pub fair : IsFairWorld w
  pub kept : k ≡ kept_of w

-- at most this many messages were made
abbrev pub IsFew : ℕ → Option KeptSlot → Type 0
IsFew n None = Unit {0}
IsFew n (Some s) = s.held.sent ≤ n

-- there are 64 slots, and their message numbers fit into a `u64`
pub record IsKept (k : DeskState) : Type 0 where
  pub slots : length k.slots ≡ 64
  pub few : AllByRecursion (IsFew (3 * k.volume.number)) k.slots
