-- The answer to each event (`src/event.rt`), and the world after it.
pub use Rattle.lq_update.specs.declared.open_options.OpenOptions.{OpenOptions}
use Rattle.std.specs.Prelude.{ℕ, ◌+◌, ◌-◌, List, [], ◌∷◌, ◌++◌, length, map, Bool, true, false, not, ◌&&◌, nat_le, Option, Some, None, if◌then◌else◌}
use Rattle.std.specs.Option.{option_map}
use Rattle.lq_value.specs.declared.refusal.Refusal.{Refusal}
use Rattle.lq_value.specs.declared.refusal.Refusal.TheVariants.{BadPort, BadBacklog, NoSlot, NotOpen, StillOpen, Exhausted}
use Rattle.lq_value.specs.declared.entry.Entry.{Entry}
use Rattle.lq_value.specs.Refusal.{first_refusal}
use Rattle.lq_predicate.specs.Query.{Query}
use Rattle.lq_volume.specs.declared.change.Change.{Change as Change_}
use Rattle.lq_volume.specs.declared.change.Applied.{Applied}
use Rattle.lq_volume.specs.Change.{refused, node_of}
use Rattle.lq_volume.specs.Result.{result_of}
use Rattle.lq_volume.specs.Book.{grown, number_of, state_of, Book}
use Rattle.lq_update.specs.Options.{options_of}
use Rattle.lq_update.specs.declared.mark.Cause.TheVariants.{Closed, HungUp}
use Rattle.lq_update.specs.declared.parcel.Parcel.{Parcel}
use Rattle.lq_desk_world.specs.declared.event.Event.{Event}
use Rattle.lq_desk_world.specs.declared.event.Event.TheVariants.{Change, Open, OpenBy, Put, Take, HangUp, Notice, Close, Finish}
use Rattle.lq_desk_world.specs.declared.event.Act.{Act}
use Rattle.lq_desk_world.specs.declared.event.Act.TheVariants as act
use Rattle.lq_desk_world.specs.World.{World, Subscribed, with_end, with_hang_up_asked, one_more_put, one_more_taken, can_put, first_in_port, is_live, is_over, after_change, subscribed_at, taken_before_free, with_slot}

-- the possible answers to an event
pub data Answer : Type 0 where
  Changed : (applied : Applied) → Answer
  Opened : (slot : ℕ) (at : ℕ) (result : List Entry) → Answer
  Moved : (was : Bool) → Answer
  Took : (parcel : Parcel) → Answer
  Empty : Answer
  Ended : Answer
  Asked : Answer
  Noticed : (was : Bool) → Answer
  Shut : (change : ℕ) → Answer
  Finished : Answer
  Refused : (refusal : Refusal) → Answer

-- ---- a change

abbrev pub world_with_change : World → Change_ → World
world_with_change w c = record w {
  book = grown w.book (c ∷ []);
  slots = map (option_map (after_change w.book c)) w.slots;
}

abbrev pub changing : World → Change_ → Option Refusal → Answer × World
changing w c (Some e) = (Refused e, w)
changing w c None = (
  Changed (record { change = number_of w.book + 1; node = node_of (state_of w.book) c }),
  world_with_change w c,
)

-- ---- an opening

abbrev pub opened_now : World → Query → OpenOptions → Subscribed
opened_now w q options = record {
  query = q;
  flags = options.flags;
  opened = number_of w.book;
  port = options.port;
  backlog = options.backlog;
  hang_up_asked = false;
  put = 0;
  taken = 0;
  end = None;
}

-- what an event asks to open, if it does: a query, and how
abbrev pub asked_to_open : Event → Option (Query × OpenOptions)
asked_to_open (Open q port backlog moved) = Some (q, options_of port backlog moved)
asked_to_open (OpenBy q options) = Some (q, options)
asked_to_open e = None

-- the tests of an opening by its port and backlog alone, each with the refusal that it gives
abbrev pub size_refusals : ℕ → ℕ → List (Bool × Refusal)
size_refusals port backlog =
    (not (nat_le 1 port && nat_le port 1024), BadPort)
    ∷ (not (nat_le backlog 65536), BadBacklog)
    ∷ []

-- all tests of an opening in order: the last two ask whether no slot is free, and whether the
-- openings so far are as many as the changes that the volume accepts
abbrev pub opening_refusals : Bool → ℕ → ℕ → ℕ → ℕ → List (Bool × Refusal)
opening_refusals full openings limit port backlog =
    size_refusals port backlog ++ (full, NoSlot) ∷ (nat_le limit openings, Exhausted) ∷ []

-- the first refusal that fits an opening in a world
abbrev pub open_refusal : World → ℕ → ℕ → Option Refusal
open_refusal w port backlog =
    first_refusal
    (opening_refusals (nat_le (length w.slots) (taken_before_free w.slots)) w.openings
    (state_of w.book).limit port backlog)

-- the world with a subscription in the lowest free slot
abbrev pub with_sub : World → Subscribed → World
with_sub w s =
    with_slot (record w { openings = w.openings + 1 }) (taken_before_free w.slots) (Some s)

abbrev pub opening : World → Subscribed → Option Refusal → Answer × World
opening w s (Some e) = (Refused e, w)
opening w s None = (
  Opened (taken_before_free w.slots + 1) (number_of w.book) (result_of s.query (state_of w.book)),
  with_sub w s,
)

-- ---- the acts at a slot: over a book and its subscription, the answer and the slot's content
-- afterwards

-- the next parcel moves into the port
abbrev pub putting_if : Subscribed → Bool → Answer × Option Subscribed
putting_if s true = (Moved true, Some (one_more_put s))
putting_if s false = (Moved false, Some s)

abbrev pub putting : Book → Subscribed → Answer × Option Subscribed
putting b s = putting_if s (can_put b s)

-- a read of the first parcel in the port
abbrev pub reading_if : Book → Subscribed → Option Parcel → Answer × Option Subscribed
reading_if b s (Some p) = (Took p, Some (one_more_taken s))
reading_if b s None = (if is_over b s then Ended else Empty, Some s)

abbrev pub read_outcome : Book → Subscribed → Answer × Option Subscribed
read_outcome b s = reading_if b s (first_in_port b s)

-- a request to end
abbrev pub hanging_up : Subscribed → Answer × Option Subscribed
hanging_up s = (Asked, Some (with_hang_up_asked s))

-- it ends, if that was asked for
abbrev pub noticing_if : Book → Subscribed → Bool → Answer × Option Subscribed
noticing_if b s true = (Noticed true, Some (with_end s HungUp (number_of b)))
noticing_if b s false = (Noticed false, Some s)

abbrev pub noticing : Book → Subscribed → Answer × Option Subscribed
noticing b s = noticing_if b s (is_live s && s.hang_up_asked)

-- it ends, unless it has ended
abbrev pub closing_if : Book → Subscribed → Bool → Answer × Option Subscribed
closing_if b s true = (Shut (number_of b), Some (with_end s Closed (number_of b)))
closing_if b s false = (Refused NotOpen, Some s)

abbrev pub closing : Book → Subscribed → Answer × Option Subscribed
closing b s = closing_if b s (is_live s)

-- its slot becomes free, if its mark was read
abbrev pub finishing_if : Subscribed → Bool → Answer × Option Subscribed
finishing_if s true = (Finished, None)
finishing_if s false = (Refused StillOpen, Some s)

abbrev pub finishing : Book → Subscribed → Answer × Option Subscribed
finishing b s = finishing_if s (is_over b s)

-- what an act does at a taken slot
abbrev pub acting : Book → Act → Subscribed → Answer × Option Subscribed
acting b act.Put = putting b
acting b act.Take = read_outcome b
acting b act.HangUp = hanging_up
acting b act.Notice = noticing b
acting b act.Close = closing b
acting b act.Finish = finishing b

-- this act at a slot, if that is taken
abbrev pub at_slot : World → ℕ → Option Subscribed → (Subscribed → Answer × Option Subscribed)
    → Answer × World
at_slot w slot None does = (Refused NotOpen, w)
at_slot w slot (Some s) does = ((does s).0, with_slot w (slot - 1) (does s).1)

-- an act at a slot
abbrev pub act_outcome : World → ℕ → Act → Answer × World
act_outcome w slot a = at_slot w slot (subscribed_at w slot) (acting w.book a)

-- the event that does an act at a slot
abbrev pub event_at : ℕ → Act → Event
event_at slot act.Put = Put slot
event_at slot act.Take = Take slot
event_at slot act.HangUp = HangUp slot
event_at slot act.Notice = Notice slot
event_at slot act.Close = Close slot
event_at slot act.Finish = Finish slot

-- ---- all of them

-- the answer to an event, and the world after it
abbrev pub outcome : World → Event → Answer × World
outcome w (Change c) = changing w c (refused (state_of w.book) c)
outcome w (Open q port backlog moved) =
    opening w (opened_now w q (options_of port backlog moved)) (open_refusal w port backlog)
outcome w (OpenBy q options) =
    opening w (opened_now w q options) (open_refusal w options.port options.backlog)
outcome w (Put slot) = act_outcome w slot act.Put
outcome w (Take slot) = act_outcome w slot act.Take
outcome w (HangUp slot) = act_outcome w slot act.HangUp
outcome w (Notice slot) = act_outcome w slot act.Notice
outcome w (Close slot) = act_outcome w slot act.Close
outcome w (Finish slot) = act_outcome w slot act.Finish

abbrev pub answer_to : World → Event → Answer
answer_to w e = (outcome w e).0

abbrev pub next : World → Event → World
next w e = (outcome w e).1
