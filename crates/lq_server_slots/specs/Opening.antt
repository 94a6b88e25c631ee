-- What an opening makes, and the name that goes with a slot's seat.
use Rattle.std.specs.Prelude.{◌≡◌, ◌⊎◌, ℕ, ◌<◌, ◌+◌, Bool, true, false, [], length, Option, Some, None, IsSome, IsSomeAnd, IfSome, IfNone, Result, Err, IfOk, IfErr, ◌-◌, ◌==◌}
use base.Stored.{gnil}
use Rattle.lq_value.specs.declared.refusal.Refusal.{Refusal}
use Rattle.lq_value.specs.declared.refusal.Refusal.TheVariants.{NoSlot, Exhausted, NoMemory}
use Rattle.lq_value.specs.Refusal.{IsRefusedBy, first_refusal}
use Rattle.lq_predicate.specs.Query.{Query, And, no_more}
use Rattle.lq_volume.specs.Book.{Book, state_of}
use Rattle.lq_volume.specs.Result.{result_of}
use Rattle.lq_update.specs.declared.open_options.Flags.{Flags}
use Rattle.lq_update.specs.Options.{no_values}
use Rattle.lq_update.specs.Fold.{opened_at}
use Rattle.lq_desk_world.specs.Events.{opening_refusals, size_refusals}
use Rattle.lq_desk_sub.specs.SlotTable.{first_free}
use Rattle.lq_board.specs.Token.{BoardName, SeatToken}
use Rattle.lq_port.specs.End.{End}
use Rattle.lq_server_slots.specs.declared.identity.Identity.{Identity}
use Rattle.lq_server_slots.specs.declared.identity.FirstClose.TheVariants.{Never}
use Rattle.lq_server_slots.specs.declared.identity.LastReport.TheVariants.{Live}
use Rattle.lq_server_slots.specs.declared.delivery.Delivery.{Delivery}
use Rattle.lq_server_slots.specs.declared.delivery.Opening.{Opening}
use Rattle.lq_server_slots.specs.declared.subscription.Subscription.{Subscription}
use Rattle.lq_server_slots.specs.Rule.{floor_of, query_of}
use Rattle.lq_server_slots.specs.Identity.{port_id}
use Rattle.lq_server_slots.specs.Reading.{ReadingHold}
use Rattle.lq_server_slots.specs.Standing.{IsConsistentAt}
use Rattle.lq_server_slots.specs.declared.open.Opened.{Opened}
use Rattle.lq_server_slots.specs.declared.slots.ServerSlots.{ServerSlots}
use Rattle.lq_server_slots.specs.Slots.{slot_in}

-- the name belongs to the port
pub record IdentityFits (t : Identity) (e : End Delivery Opening) : Type 0 where
  pub query : t.query ≡ query_of e.floor
  pub flags : t.flags ≡ e.floor.flags
  pub opened : t.opened ≡ e.floor.opened
  pub places : t.places ≡ e.places
  pub port : t.port ≡ port_id e.port

-- how often a seat has asked: n times, and once more if the flag is set
abbrev pub asks_after : ℕ → Bool → ℕ
asks_after n false = n
asks_after n true = n + 1

-- a subscription that was just made, and its reading end
pub record IsNewSubscription (s : Subscription) (r : ReadingHold) (book : Book) (q : Query)
    (flags : Flags) (port backlog : ℕ) : Type 0 where
  pub stands : IsConsistentAt s book
  pub messages : s.sub.held.messages ≡ []
  pub live : s.sub.held.mark ≡ None
  pub query : s.sub.held.query ≡ q
  pub flags_are : s.sub.held.flags ≡ flags
  pub opened : s.sub.held.opened ≡ length book.changes
  pub backlog_is : s.sub.held.backlog ≡ backlog
  pub places : s.places ≡ port
  pub last_report : s.last_report.value ≡ Live (length book.changes) 0
  pub first_close : s.first_close ≡ Never
  pub end : r.port ≡ s.input
  pub floor : floor_of r.port.floor ≡ book
  pub taken : r.port.taken ≡ []
  pub ahead : r.port.ahead ≡ []
  pub hand : r.hand ≡ None
  pub result : r.result ≡ opened_at (length book.changes) (result_of q (state_of book))

-- the name that goes with the seat of a subscription that was just opened
pub record IsOpenedName (t : Identity) (o : Opened) (backlog : ℕ) : Type 0 where
  pub fits : IdentityFits t o.reading.port
  pub asks : o.seat.asks ≡ t.asks
  pub few : t.asks < 1000000000000
  pub backlog_is : t.backlog ≡ backlog
  pub last_report : t.last_report ≡ Live t.opened 0
  pub first_close : t.first_close ≡ Never

-- A subscription that was just opened over this book: nothing was read, and the result is the
-- query's. Its seat made no change, may make changes where each seat of the board may, and no seat
-- was made for it.
pub record IsOpened (o : Opened) (board : BoardName) (book : Book) (q : Query) (flags : Flags)
    (port backlog : ℕ) : Type 0 where
  pub low : 0 < o.slot
  pub high : o.slot < 65
  pub slot_is : o.seat.slot ≡ o.slot
  pub board_is : o.seat.board ≡ board
  pub seat : o.seat.book ≡ book
  pub fresh : o.seat.author.changes ≡ []
  pub signs : o.seat.author.signs ≡ board.free
  pub counts : (o.seat.seats ≡ 0) × (o.seat.openings ≡ 0)
  pub named : IsSomeAnd o.seat.name (λ t. IsOpenedName t o backlog)
  pub floor : floor_of o.reading.port.floor ≡ book
  pub query : query_of o.reading.port.floor ≡ q
  pub flags_are : o.reading.port.floor.flags ≡ flags
  pub opened : o.reading.port.floor.opened ≡ length book.changes
  pub places : o.reading.port.places ≡ port
  pub taken : o.reading.port.taken ≡ []
  pub ahead : o.reading.port.ahead ≡ []
  pub hand : o.reading.hand ≡ None
  pub result : o.reading.result ≡ opened_at (length book.changes) (result_of q (state_of book))

-- a seat, s before and t after, counts one opening more, and knows this book
abbrev pub CountsOpening : Book → SeatToken Identity → SeatToken Identity → Type 0
CountsOpening book s t = t ≡ record s { book = book; openings = s.openings + 1 }

-- why an opening is refused by its numbers alone: the first that fits
abbrev pub size_refusal : ℕ → ℕ → Option Refusal
size_refusal port backlog = first_refusal (size_refusals port backlog)

-- an opening over these slots and with this limit on the openings is refused by the first test that
-- fits, and by no other
abbrev pub IsOpeningTabled : {T : Type 0} → ServerSlots → ℕ → ℕ → ℕ → Result T Refusal → Type 0
IsOpeningTabled slots limit port backlog result =
    IsRefusedBy result
    (first_refusal
    (opening_refusals (first_free slots.subscriptions == 64) slots.openings limit port backlog))

-- the other reasons to refuse an opening: no slot is free, the openings have reached the volume's
-- limit on changes, or memory ran out
abbrev pub IsOpeningRefused : Refusal → Type 0
IsOpeningRefused e = (e ≡ NoSlot) ⊎ (e ≡ Exhausted) ⊎ (e ≡ NoMemory)

-- Over these slots and with this limit on the openings, an opening is answered so: with what has
-- this slot, or with a refusal.
pub record IsOpeningAnswer {T : Type 0} (slot_of : T → ℕ) (slots : ServerSlots)
    (limit port backlog : ℕ) (result : Result T Refusal) : Type 0 where
  -- the first refusal that fits, and no other
  pub table : IsOpeningTabled slots limit port backlog result
  -- the slot was free, and each lower one is taken
  pub free : IfOk result (λ o. slot_in slots.subscriptions (slot_of o - 1) ≡ None)
  pub lowest : IfOk result (λ o.
      (i : ℕ) → i < slot_of o - 1 → IsSome (slot_in slots.subscriptions i))
  -- the numbers are checked first, by their bounds alone
  pub refused : IfSome (size_refusal port backlog) (λ e. result ≡ Err e)
  pub others : IfNone (size_refusal port backlog) (IfErr result IsOpeningRefused)

-- the name of no subscription
abbrev pub no_identity : Identity
no_identity = record {
  query = And no_more;
  flags = no_values false;
  opened = 0;
  places = 0;
  backlog =
      0;
  asks = 0;
  last_report = Live 0 0;
  first_close = Never;
  port = gnil;
}

-- the name that goes with a seat, if there is one
abbrev pub name_or : Option Identity → Identity
name_or (Some t) = t
name_or None = no_identity
