-- A refused change under the lock, as a run of the core's world.
use Rattle.std.specs.Prelude.{◌≡◌, ◌⊎◌, ℕ, ◌+◌, ◌<◌, ◌≤◌, List, [], ◌∷◌, length, Option, Some, None}
use Rattle.lq_volume.specs.declared.change.Change.{Change as Change_}
use Rattle.lq_volume.specs.Change.{node_of, refused}
use Rattle.lq_volume.specs.Book.{Book, grown, number_of, state_of}
use Rattle.lq_board.specs.Known.{KnownSlot}
use Rattle.lq_board.specs.Slot.{slot_at}
use Rattle.lq_port.specs.End.{all_put}
use Rattle.lq_server_slots.specs.declared.identity.Identity.{Identity}
use Rattle.lq_desk_world.specs.World.{World, after_change, whole}
use Rattle.lq_desk_world.specs.declared.event.Event.{Event}
use Rattle.lq_desk_world.specs.declared.event.Event.TheVariants.{Change}
use Rattle.lq_desk_world.specs.declared.event.Act.{Act}
use Rattle.lq_desk_world.specs.declared.event.Act.TheVariants as act
use Rattle.lq_desk_world.specs.Events.{Answer, Changed, answer_to, next}
use Rattle.lq_server_slots.specs.Acts.{events_of_acts}
use Rattle.lq_desk_world.specs.Runs.{Run}
use Rattle.lq_server_slots.specs.declared.subscription.Subscription.{Subscription}
use Rattle.lq_server_slots.specs.declared.slots.ServerSlots.{ServerSlots}
use Rattle.lq_server_slots.specs.Shown.{world_shown}
use Rattle.lq_server_slots.specs.Slots.{slot_in}
use Rattle.lq_server_slots.specs.Turn.{AllPut, known_subscription, after_notice}

-- how many parcels the putting end of a slot knows to be taken
abbrev pub taken_known : Option Subscription → ℕ
taken_known None = 0
taken_known (Some s) = length s.input.taken

-- the world that the lock knows of
abbrev pub world_known : ServerSlots → World
world_known slots = world_shown (λ i. taken_known (slot_in slots.subscriptions i)) slots

-- a port has a place
abbrev pub HasPlaces : Option Subscription → Type 0
HasPlaces None = Unit {0}
HasPlaces (Some s) = 1 ≤ s.places

-- no more was put than the whole list has
abbrev pub IsWithin : Book → Option Subscription → KnownSlot Identity → Type 0
IsWithin b None q = Unit {0}
IsWithin b (Some t) q =
    length (all_put t.input) ≤ length (whole b (known_subscription t q))

-- Notices and puts at all slots, as a refused change makes them, are a run of the world that the
-- lock knows of: requests of readers, notices, and puts with takes of readers in between.
abbrev pub RefusedAreRuns : Type 0
RefusedAreRuns =
    (old new : ServerSlots) → new.keeper.book ≡ old.keeper.book → new.openings ≡ old.openings
    → ((i : ℕ) → i < 64 → HasPlaces (slot_in old.subscriptions i))
    → ((i : ℕ) → i < 64
    → IsWithin old.keeper.book (slot_in new.subscriptions i) (slot_at new.keeper.slots (i + 1)))
    → ((k : ℕ) → (slot_at old.keeper.slots k).asks ≤ (slot_at new.keeper.slots k).asks)
    → AllPut old.keeper.book (after_notice old.keeper.book) old.subscriptions new.subscriptions
    new.keeper.slots
    → (events : List Event) × (answers : List Answer)
    × Run (world_known old) events answers (world_known new)

-- a free slot has no acts; at a taken one a request may become known, and then comes a notice
abbrev pub IsNoticing : Option Subscription → List Act → Type 0
IsNoticing None acts = acts ≡ []
IsNoticing (Some s) acts = (acts ≡ act.Notice ∷ []) ⊎ (acts ≡ act.HangUp ∷ act.Notice ∷ [])

-- puts, and takes of the reader
abbrev pub ArePutsAndTakes : List Act → Type 0
ArePutsAndTakes [] = Unit {0}
ArePutsAndTakes (act.Put ∷ acts) = ArePutsAndTakes acts
ArePutsAndTakes (act.Take ∷ acts) = ArePutsAndTakes acts
ArePutsAndTakes (a ∷ acts) = ⊥

-- a fact of the acts at each slot; the first one here is at index n
abbrev pub AreActs : (ℕ → List Act → Type 0) → ℕ → List (List Act) → Type 0
AreActs P n [] = Unit {0}
AreActs P n (acts ∷ all) = P n acts × AreActs P (n + 1) all

-- A change that is made: notices at all slots, before each of which its reader's request may come;
-- the change, with the core's answer; then puts at all slots, with takes of their readers in between.
pub record IsTurn (old new : ServerSlots) (c : Change_) : Type 0 where
  pub notices : List (List Act)
  pub noticing : AreActs (λ i. IsNoticing (slot_in old.subscriptions i)) 0 notices
  pub puts : List (List Act)
  pub putting : AreActs (λ i. ArePutsAndTakes) 0 puts
  pub mid : World
  pub first : List Answer
  pub before : Run (world_known old) (events_of_acts 1 notices) first mid
  pub answer : answer_to mid (Change c)
      ≡ Changed (record {
        change = number_of old.keeper.book + 1;
        node = node_of (state_of old.keeper.book) c;
      })
  pub last : List Answer
  pub after : Run (next mid (Change c)) (events_of_acts 1 puts) last (world_known new)

abbrev pub MadeAreRuns : Type 0
MadeAreRuns =
    (old new : ServerSlots) (c : Change_) → new.keeper.book ≡ grown old.keeper.book (c ∷ [])
    → new.openings ≡ old.openings → refused (state_of old.keeper.book) c ≡ None
    → ((i : ℕ) → i < 64 → HasPlaces (slot_in old.subscriptions i))
    → ((i : ℕ) → i < 64 → IsWithin (grown old.keeper.book (c ∷ [])) (slot_in new.subscriptions i)
    (slot_at new.keeper.slots (i + 1)))
    → ((k : ℕ) → (slot_at old.keeper.slots k).asks ≤ (slot_at new.keeper.slots k).asks)
    → AllPut (grown old.keeper.book (c ∷ []))
    (λ u. after_change old.keeper.book c (after_notice old.keeper.book u))
    old.subscriptions new.subscriptions new.keeper.slots
    → IsTurn old new c
