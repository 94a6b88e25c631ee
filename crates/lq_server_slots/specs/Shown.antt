-- What the lock keeps, as a world of the core.
use Rattle.std.specs.Prelude.{◌≡◌, ℕ, ◌<◌, Bool, true, false, List, [], ◌∷◌, ◌++◌, length, map, nat_lt, Option, Some, None, slice_index_or, ◌+◌}
use Rattle.std.specs.List.{range_with_len}
use Rattle.lq_board.specs.Known.{KnownSlot}
use Rattle.lq_board.specs.Book.{IsFullBook}
use Rattle.lq_board.specs.Slot.{slot_at}
use Rattle.lq_volume.specs.declared.change.Change.{Change}
use Rattle.lq_volume.specs.Book.{Book, state_of}
use Rattle.lq_update.specs.declared.mark.Mark.{Mark}
use Rattle.lq_update.specs.declared.parcel.Parcel.{Parcel}
use Rattle.lq_update.specs.declared.parcel.Parcel.TheVariants.{Update, Fin}
use Rattle.lq_port.specs.End.{all_put}
use Rattle.lq_desk_world.specs.World.{World, Subscribed, Ending, updates_due, waiting, to_come, after_change}
use Rattle.lq_desk_world.specs.Events.{noticing, closing}
use Rattle.lq_server_slots.specs.declared.identity.Identity.{Identity}
use Rattle.lq_server_slots.specs.declared.subscription.Subscription.{Subscription}
use Rattle.lq_server_slots.specs.Rule.{messages_in}
use Rattle.lq_server_slots.specs.Marking.{held_committed, held_noticed, held_closed}
use Rattle.lq_server_slots.specs.Standing.{IsConsistentAt, HasPrepared}
use Rattle.lq_server_slots.specs.declared.slots.ServerSlots.{ServerSlots}
use Rattle.lq_server_slots.specs.Slots.{AreConsistent, slot_in}

-- the end that a mark tells of
abbrev pub mark_ending : Option Mark → Option Ending
mark_ending None = None
mark_ending (Some k) = Some (record { cause = k.cause; change = k.change })

-- a subscription under the lock as one of a world, where this many parcels were taken from its port
abbrev pub shown_subscription : Bool → ℕ → Subscription → Subscribed
shown_subscription asked taken s = record {
  query = s.sub.held.query;
  flags = s.sub.held.flags;
  opened = s.sub.held.opened;
  port = s.places;
  backlog = s.sub.held.backlog;
  hang_up_asked = asked;
  put = length (all_put s.input);
  taken = taken;
  end = mark_ending s.sub.held.mark;
}

-- a slot that may be free; its end was asked for as far as the keeper knows
abbrev pub slot_shown : ℕ → Option Subscription → KnownSlot Identity → Option Subscribed
slot_shown taken None p = None
slot_shown taken (Some s) p = Some (shown_subscription (nat_lt s.asks p.asks) taken s)

-- the world that the slots show where this many parcels were taken from each slot's port, by its
-- index
abbrev pub world_shown : (ℕ → ℕ) → ServerSlots → World
world_shown taken slots = record {
  book = slots.keeper.book;
  openings = slots.openings;
  slots = map
      (λ i. slot_shown (taken i) (slot_in slots.subscriptions i)
      (slot_at slots.keeper.slots (i + 1)))
      (range_with_len 0 64);
}

-- a mark that isn't put yet, as a list
abbrev pub mark_to_put : Bool → Option Mark → List Parcel
mark_to_put true o = []
mark_to_put false None = []
mark_to_put false (Some k) = Fin k ∷ []

-- The subscription s stands for u of a world: the updates due are the messages that were put and
-- then those held, and what is to come is those held and then a mark that isn't put yet.
pub record PassesOnAs (b : Book) (u : Subscribed) (s : Subscription) : Type 0 where
  pub due : updates_due b u ≡ messages_in (all_put s.input) ++ s.sub.held.messages
  pub held : waiting b u ≡ s.sub.held.messages
  pub left : to_come b u
      ≡ map (λ m. Update m) s.sub.held.messages ++ mark_to_put s.sub.held.mark_out s.sub.held.mark

abbrev pub SlotPassesOn : Book → Option Subscribed → Option Subscription → Type 0
SlotPassesOn b None None = Unit {0}
SlotPassesOn b None (Some s) = ⊥
SlotPassesOn b (Some u) None = ⊥
SlotPassesOn b (Some u) (Some s) = PassesOnAs b u s

-- Slots that stand over the keeper's book show a world, whatever the counts taken: its slots are
-- taken and free as theirs, and each subscription of the world has put, holds and is still to put
-- what that under the lock has.
abbrev pub SlotsShowWorlds : Type 0
SlotsShowWorlds =
    (slots : ServerSlots) (taken : ℕ → ℕ) → IsFullBook slots.keeper.book
    → AreConsistent slots slots.keeper.book → (i : ℕ) → i < 64
    → SlotPassesOn slots.keeper.book (slice_index_or (world_shown taken slots).slots i None)
    (slot_in slots.subscriptions i)

-- the subscription of a world with the end that this mark tells of
abbrev pub with_mark : Subscribed → Option Mark → Subscribed
with_mark u o = record u { end = mark_ending o }

-- A commit, a notice and a close do to the mark of a subscription that stands over a book what a
-- change, a notice and a close do to the end of the subscription of the world that it stands for.
pub record ActsAreShown (s : Subscription) (book : Book) (asked : Bool) (taken : ℕ)
    : Type 0 where
  pub change : (c : Change) → HasPrepared s.sub (state_of book) c
      → after_change book c (shown_subscription asked taken s)
      ≡ with_mark (shown_subscription asked taken s) (held_committed s.sub).mark
  pub notice : (noticing book (shown_subscription asked taken s)).1
      ≡ Some (with_mark (shown_subscription asked taken s)
      (held_noticed asked (length book.changes) s.sub.held).mark)
  pub close : (closing book (shown_subscription asked taken s)).1
      ≡ Some (with_mark (shown_subscription asked taken s)
      (held_closed (length book.changes) s.sub.held).mark)

abbrev pub ActsShowWorlds : Type 0
ActsShowWorlds =
    (s : Subscription) (book : Book) (asked : Bool) (taken : ℕ) → IsFullBook book
    → IsConsistentAt s book → ActsAreShown s book asked taken
