-- A change under the lock as a turn of the core's world, slot by slot.
--
-- The lock knows of a world: which ends were asked for, as far as the keeper has looked, and which
-- parcels were taken, as far as the putting ends know. Where it learns of more, a reader's own
-- event, a request or a take, comes in between.
use Rattle.std.specs.Prelude.{◌≡◌, ◌⊎◌, ℕ, ◌+◌, ◌<◌, ◌≤◌, true, false, List, [], ◌∷◌, length, nat_lt, Option, Some, None, IsSomeAnd}
use Rattle.lq_volume.specs.Book.{Book}
use Rattle.lq_board.specs.Known.{KnownSlot}
use Rattle.lq_board.specs.Slot.{slot_at}
use Rattle.lq_port.specs.End.{End, all_put}
use Rattle.lq_desk_world.specs.World.{Subscribed, whole}
use Rattle.lq_desk_world.specs.declared.event.Act.{Act}
use Rattle.lq_desk_world.specs.declared.event.Act.TheVariants as act
use Rattle.lq_desk_world.specs.Events.{Answer, Moved, Took, noticing, acting}
use Rattle.lq_server_slots.specs.declared.delivery.Delivery.{Delivery}
use Rattle.lq_server_slots.specs.declared.delivery.Opening.{Opening}
use Rattle.lq_server_slots.specs.declared.identity.Identity.{Identity}
use Rattle.lq_server_slots.specs.declared.subscription.Subscription.{Subscription}
use Rattle.lq_server_slots.specs.Shown.{shown_subscription}
use Rattle.lq_server_slots.specs.Slots.{Serves, slot_in}

-- a subscription under the lock as one of the world that the lock knows of
abbrev pub known_subscription : Subscription → KnownSlot Identity → Subscribed
known_subscription s p = shown_subscription (nat_lt s.asks p.asks) (length s.input.taken) s

-- what an act leaves in the slot of a subscription
abbrev pub after_act : Subscribed → Option Subscribed → Subscribed
after_act u None = u
after_act u (Some v) = v

-- the subscription after a notice
abbrev pub after_notice : Book → Subscribed → Subscribed
after_notice b u = after_act u (noticing b u).1

-- The subscription u became v by puts and by takes of its reader in between, each put with room in
-- the port, until a put moves nothing more.
pub record PutsAndTakes (b : Book) (u v : Subscribed) : Type 0 where
  pub same : v ≡ record u { put = v.put; taken = v.taken }
  pub put : u.put ≤ v.put
  pub taken : u.taken ≤ v.taken
  pub within : v.taken ≤ v.put
  pub room : (v.put ≡ u.put) ⊎ (v.put ≤ v.taken + v.port)
  pub still : (length (whole b v) ≤ v.put) ⊎ (v.taken + v.port ≤ v.put)

-- the putting end gained parcels, and knows that the port has room for what waits; or it is as it
-- was
pub record GainsParcels (d e : End Delivery Opening) : Type 0 where
  pub more : length (all_put d) ≤ length (all_put e)
  pub room : (e ≡ d) ⊎ (length e.ahead ≤ e.places)

-- A slot, `o` before and `n` after, was noticed, where the keeper then knows q of it.
abbrev pub SlotNoticed : Book → Option Subscription → Option Subscription → KnownSlot Identity
    → Type 0
SlotNoticed b None n q = n ≡ None
SlotNoticed b (Some s) n q =
    IsSomeAnd n (λ t. known_subscription t q ≡ after_notice b (known_subscription s q))

abbrev pub AllNoticed : Book → List (Option Subscription) → List (Option Subscription)
    → List (KnownSlot Identity) → Type 0
AllNoticed b old new known =
    (i : ℕ) → i < 64 → SlotNoticed b (slot_in old i) (slot_in new i) (slot_at known (i + 1))

-- Its parcels were put over a book, after this had been done to it.
abbrev pub SlotPuts : Book → (Subscribed → Subscribed) → Option Subscription → Option Subscription
    → KnownSlot Identity → Type 0
SlotPuts b f None n q = n ≡ None
SlotPuts b f (Some s) n q =
    IsSomeAnd n (λ t. PutsAndTakes b (f (known_subscription s q)) (known_subscription t q))

abbrev pub AllPut : Book → (Subscribed → Subscribed) → List (Option Subscription)
    → List (Option Subscription) → List (KnownSlot Identity) → Type 0
AllPut b f old new known =
    (i : ℕ) → i < 64 → SlotPuts b f (slot_in old i) (slot_in new i) (slot_at known (i + 1))

-- a taken slot was served, and its parcels were put after this had been done to it
pub record ServesAs (f : Subscribed → Subscribed) (number : ℕ) (s t : Subscription)
    (p : KnownSlot Identity) (book : Book) : Type 0 where
  pub serves : Serves number s t p book
  pub puts : PutsAndTakes book (f (known_subscription s p)) (known_subscription t p)

-- ---- the same as runs of the core

-- an answer that says that a parcel was moved
abbrev pub IsMove : Answer → Type 0
IsMove (Moved true) = Unit {0}
IsMove (Took p) = Unit {0}
IsMove a = ⊥

-- acts at one subscription over a book, one after another, each of which moves a parcel
abbrev pub MovesLead : Book → List Act → Subscribed → Subscribed → Type 0
MovesLead b [] u v = v ≡ u
MovesLead b (a ∷ acts) u v =
    (w : Subscribed) × ((acting b a u).1 ≡ Some w) × IsMove (acting b a u).0 × MovesLead b acts w v

-- Where puts and takes in between led from u to v, acts of the core do, each of which moves a
-- parcel; and one put more moves none.
abbrev pub PutsAreRuns : Type 0
PutsAreRuns =
    (b : Book) (u v : Subscribed) → PutsAndTakes b u v → 1 ≤ u.port → u.taken ≤ u.put
    → v.put ≤ length (whole b v)
    → (acts : List Act) × MovesLead b acts u v × ((acting b act.Put v).0 ≡ Moved false)
