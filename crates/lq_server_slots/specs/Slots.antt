-- What the lock has of the slots, beside what the keeper knows of them.
use Rattle.std.specs.Prelude.{◌≡◌, ◌≢◌, ℕ, ◌+◌, ◌<◌, ◌≤◌, ◌-◌, true, false, List, ◌∷◌, [], length, take, Option, Some, None, IsSome, IsSomeAnd, slice_get, slice_index}
use Rattle.lq_volume.specs.State.{State}
use Rattle.lq_volume.specs.declared.change.Change.{Change}
use Rattle.lq_volume.specs.Change.{IsLawful}
use Rattle.lq_volume.specs.Book.{Book, Extends, grown, state_of}
use Rattle.lq_board.specs.Known.{KnownSlot}
use Rattle.lq_board.specs.Book.{IsFullBook}
use Rattle.lq_board.specs.Slot.{slot_at}
use Rattle.lq_board.specs.Token.{BoardName, KeeperToken, SeatToken}
use Rattle.lq_desk_sub.specs.declared.watch.Watch.{Watch}
use Rattle.lq_desk_sub.specs.SlotSet.{has}
use Rattle.lq_desk_sub.specs.Watch.{IsWatched, slots_for}
use Rattle.lq_server_slots.specs.declared.identity.Identity.{Identity}
use Rattle.lq_server_slots.specs.declared.subscription.Subscription.{Subscription}
use Rattle.lq_server_slots.specs.Marking.{hung_mark, MarkCovers}
use Rattle.lq_server_slots.specs.Identity.{identity_of}
use Rattle.lq_server_slots.specs.Standing.{IsConsistentAt, IsFilled, HasPrepared, IsSeen, CannotPut, SameQuery}
use Rattle.lq_server_slots.specs.declared.slots.ServerSlots.{ServerSlots}
use Rattle.std.specs.Option.{option_flatten}

-- a taken slot: its subscription, and what the keeper knows of its seat
pub record IsTakenSlot (s : Subscription) (p : KnownSlot Identity) (book : Book) : Type 0 where
  pub stands : IsConsistentAt s book
  pub filled : IsFilled s
  pub seen : IsSeen s
  pub out : p.out ≡ true
  pub name : p.name ≡ Some (identity_of s)
  pub hung : hung_mark s.sub.held.mark → s.asks < p.asks

-- a slot that may be free
abbrev pub SlotStands : Option Subscription → KnownSlot Identity → Book → Type 0
SlotStands None p book = p.out ≡ false
SlotStands (Some s) p book = IsTakenSlot s p book

-- at most how often its seats have asked, once the seat that is out comes back
abbrev pub asks_of : Option Subscription → KnownSlot Identity → ℕ
asks_of None p = p.asks
asks_of (Some s) p = s.asks + 1

-- the content of a slot, by its index: that of slot 1 is 0
abbrev pub slot_in : List (Option Subscription) → ℕ → Option Subscription
slot_in slots i = option_flatten (slice_get slots i)

-- what a slot's subscription asks for is watched there
abbrev pub SlotIsWatched : Watch → ℕ → Option Subscription → Type 0
SlotIsWatched w i None = Unit {0}
SlotIsWatched w i (Some s) = IsWatched w i s.sub.held.query s.sub.held.flags

-- and so it is in all slots: no change has a message for one that it isn't shown to
abbrev pub WatchesSlots : Watch → List (Option Subscription) → Type 0
WatchesSlots w slots = (i : ℕ) → i < 64 → SlotIsWatched w i (slot_in slots i)

-- all slots over a book
pub record AreConsistent (s : ServerSlots) (book : Book) : Type 0 where
  pub known : length s.keeper.slots ≡ 65
  pub wide : length s.subscriptions ≡ 64
  pub each : (i : ℕ) → i < 64
      → SlotStands (slot_in s.subscriptions i) (slot_at s.keeper.slots (i + 1)) book
  pub asks : (i : ℕ) → i < 64
      → asks_of (slot_in s.subscriptions i) (slot_at s.keeper.slots (i + 1)) ≤ s.openings
  pub watched : WatchesSlots s.watch s.subscriptions

-- the keeper's book is lawful, the volume is the state after it, and all slots stand over it
pub record IsConsistentWith (slots : ServerSlots) (volume : State) : Type 0 where
  pub state : volume ≡ state_of slots.keeper.book
  pub full : IsFullBook slots.keeper.book
  pub holding : AreConsistent slots slots.keeper.book

-- a subscription has its mark if the keeper knows that its reader asked for its end
abbrev pub IsNoticed : Subscription → KnownSlot Identity → Type 0
IsNoticed s p = s.asks < p.asks → IsSome s.sub.held.mark

-- A subscription has its mark if its reader asked for its end. Its messages and mark were put until
-- none was left or its port was full.
pub record IsServed (s : Subscription) (p : KnownSlot Identity) : Type 0 where
  pub noticed : IsNoticed s p
  pub stuck : CannotPut s

-- a taken slot, whose subscription has its mark if its reader asked for its end
pub record IsTakenNoticed (s : Subscription) (p : KnownSlot Identity) (book : Book) : Type 0 where
  pub taken : IsTakenSlot s p book
  pub noticed : IsNoticed s p

-- A taken slot was served, its subscription s before and t after. A mark that is new covers this
-- many changes.
pub record Serves (number : ℕ) (s t : Subscription) (p : KnownSlot Identity) (book : Book)
    : Type 0 where
  pub taken : IsTakenSlot t p book
  pub served : IsServed t p
  pub asks : t.asks ≡ s.asks
  pub query : SameQuery s t
  pub mark : MarkCovers number s.sub.held.mark t.sub.held.mark

-- A free slot stays free and a taken one taken. The mark of its subscription stays, and one that is
-- new covers this many changes.
abbrev pub SlotMarkCovers : ℕ → Option Subscription → Option Subscription → Type 0
SlotMarkCovers number None new = new ≡ None
SlotMarkCovers number (Some s) new =
    IsSomeAnd new (λ t. MarkCovers number s.sub.held.mark t.sub.held.mark)

-- and so it is in all slots
abbrev pub MarksCover : ℕ → List (Option Subscription) → List (Option Subscription) → Type 0
MarksCover number old new =
    (i : ℕ) → i < 64 → SlotMarkCovers number (slot_in old i) (slot_in new i)

-- a fact of a slot if it is taken, and of all slots that are
abbrev pub SlotIs :
    (Subscription → KnownSlot Identity → Type 0) → Option Subscription → KnownSlot Identity → Type 0
SlotIs P None p = Unit {0}
SlotIs P (Some s) p = P s p

abbrev pub SlotsAre :
    (Subscription → KnownSlot Identity → Type 0) → List (Option Subscription)
    → List (KnownSlot Identity)
    → Type 0
SlotsAre P slots known =
    (i : ℕ) → i < 64 → SlotIs P (slot_in slots i) (slot_at known (i + 1))

-- of a slot that is taken the keeper knows of as many asks as were heard of
abbrev pub SlotHears : List ℕ → ℕ → Option Subscription → KnownSlot Identity → Type 0
SlotHears heard i o p = SlotIs (λ s q. slice_index heard (i + 1) ≤ q.asks) o p

-- and so it is in all slots
abbrev pub KnowsHeard : List ℕ → List (Option Subscription) → List (KnownSlot Identity) → Type 0
KnowsHeard heard slots known =
    (i : ℕ) → i < 64 → SlotHears heard i (slot_in slots i) (slot_at known (i + 1))

-- only what the keeper knows of the slots may differ, and how many seats have a number or are out
pub record SameButKnown (old new : ServerSlots) : Type 0 where
  pub board : new.keeper.board ≡ old.keeper.board
  pub counted : new.keeper.register.openings ≡ old.keeper.register.openings
  pub book : new.keeper.book ≡ old.keeper.book
  pub subscriptions : new.subscriptions ≡ old.subscriptions
  pub openings : new.openings ≡ old.openings

-- what is known of the other slots stays
pub record OnlyAt (old new : List (KnownSlot Identity)) (place : ℕ) : Type 0 where
  pub wide : length new ≡ length old
  pub others : (k : ℕ) → k ≢ place → slot_at new k ≡ slot_at old k

-- a call at a slot keeps the board, the openings, the seats that are out, the book and what is
-- known of the other slots
pub record KeepsBook (old new : KeeperToken Identity) (place : ℕ) : Type 0 where
  pub board : new.board ≡ old.board
  pub counted : new.register.openings ≡ old.register.openings
  pub out : new.register.out ≡ old.register.out
  pub book : new.book ≡ old.book
  pub only : OnlyAt old.slots new.slots place

-- what stands in the slots beside this one stays, and what is known of them
pub record OthersStay (old new : ServerSlots) (slot : ℕ) : Type 0 where
  pub subscriptions : (i : ℕ) → i + 1 ≢ slot
      → slot_in new.subscriptions i ≡ slot_in old.subscriptions i
  pub known : (k : ℕ) → k ≢ slot → slot_at new.keeper.slots k ≡ slot_at old.keeper.slots k

-- the keeper knows how often a slot's seat has asked
abbrev pub KnowsAsks : List (KnownSlot Identity) → SeatToken Identity → Type 0
KnowsAsks known s = 0 < s.slot → s.asks ≤ (slot_at known s.slot).asks

-- What always holds under the lock of this board, which began with this volume: of the slots with
-- the keeper, of the volume, and of how many seats are out.
abbrev pub IsState : BoardName → State → ServerSlots → State → ℕ → Type 0
IsState board start slots volume seats =
    (slots.keeper.board ≡ board) × (volume ≡ state_of slots.keeper.book)
    × IsFullBook slots.keeper.book
    × (slots.keeper.book.start ≡ start) × (volume.limit ≡ start.limit)
    × (slots.openings ≤ volume.limit) × AreConsistent slots slots.keeper.book
    × (slots.openings ≡ slots.keeper.register.openings)
    × (seats ≡ slots.keeper.register.out)

-- the board, the book and the number of seats that are out stay, and one opening more is counted
pub record CountsOne (old new : ServerSlots) : Type 0 where
  pub board : new.keeper.board ≡ old.keeper.board
  pub counted : new.keeper.register.openings ≡ old.keeper.register.openings + 1
  pub out : new.keeper.register.out ≡ old.keeper.register.out
  pub book : new.keeper.book ≡ old.keeper.book
  pub openings : new.openings ≡ old.openings + 1

-- the board, the numbers of openings and that of the seats that are out stay
pub record KeepsCounts (old new : ServerSlots) : Type 0 where
  pub board : new.keeper.board ≡ old.keeper.board
  pub counted : new.keeper.register.openings ≡ old.keeper.register.openings
  pub out : new.keeper.register.out ≡ old.keeper.register.out
  pub openings : new.openings ≡ old.openings

-- the board, the numbers of openings and of seats that are out, and the book stay, and all slots
-- stand over the book
pub record KeepsSlots (old new : ServerSlots) : Type 0 where
  pub counts : KeepsCounts old new
  pub book : new.keeper.book ≡ old.keeper.book
  pub holding : AreConsistent new new.keeper.book

-- A slot's seat, s before and t after, met the keeper, which had this number of changes. It knows
-- the keeper's book, the keeper knows how often it has asked, and both have this name. It was out
-- under the name that the keeper knew.
pub record IsSlotMet (old new : KeeperToken Identity) (s t : SeatToken Identity)
    (named : Option Identity) (changes : ℕ) : Type 0 where
  pub number : changes ≡ length old.book.changes
  pub keeper : KeepsBook old new s.slot
  pub place : slot_at new.slots s.slot ≡ record { out = true; asks = s.asks; name = named }
  pub known : (slot_at new.slots s.slot).asks ≡ s.asks
  pub seat : t ≡ record s { book = old.book; name = named }
  pub later : Extends old.book s.book
  pub name : (slot_at old.slots s.slot).name ≡ s.name
  pub asks : (slot_at old.slots s.slot).asks ≤ s.asks
  pub out : (slot_at old.slots s.slot).out ≡ true

-- the messages of a change are prepared for the slot
abbrev pub HasPreparedAt : Option Subscription → State → Change → Type 0
HasPreparedAt None s c = Unit {0}
HasPreparedAt (Some slot) s c = HasPrepared slot.sub s c

-- the messages of a change are prepared for all slots that it is shown to
abbrev pub AllPrepared : Watch → List (Option Subscription) → State → Change → Type 0
AllPrepared w slots s c =
    (i : ℕ) → i < 64 → has (slots_for w c).word i ≡ true → HasPreparedAt (slot_in slots i) s c

-- a book without its last change
abbrev pub before_of : Book → Book
before_of b = record { start = b.start; changes = take (length b.changes - 1) b.changes }

-- the change is the last of a book, and was lawful there
pub record IsGrown (b : Book) (c : Change) : Type 0 where
  pub book : b ≡ grown (before_of b) (c ∷ [])
  pub lawful : IsLawful (state_of (before_of b)) c
  pub full : IsFullBook b
