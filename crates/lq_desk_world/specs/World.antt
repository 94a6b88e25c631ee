-- The state after a list of events: a book, the number of openings, and in each slot a subscription
-- or nothing.
use Rattle.std.specs.Prelude.{ℕ, ◌+◌, ◌-◌, List, [], ◌∷◌, ◌++◌, length, map, take, drop, replicate, Bool, ◌&&◌, ◌==◌, nat_lt, Option, Some, None, is_none, slice_get, slice_set, if◌then◌else◌, true, false}
use Rattle.std.specs.Option.{option_flatten}
use Rattle.lq_predicate.specs.Query.{Query}
use Rattle.lq_volume.specs.declared.change.Change.{Change as Change_}
use Rattle.lq_volume.specs.Book.{Book, number_of, state_of}
use Rattle.lq_update.specs.declared.open_options.Flags.{Flags}
use Rattle.lq_update.specs.declared.message.Message.{Message}
use Rattle.lq_update.specs.declared.mark.Cause.{Cause}
use Rattle.lq_update.specs.declared.mark.Cause.TheVariants.{Overrun}
use Rattle.lq_update.specs.declared.parcel.Parcel.{Parcel}
use Rattle.lq_update.specs.declared.parcel.Parcel.TheVariants.{Update, Fin}
use Rattle.lq_update.specs.Updates.{updates_of, step_of}

-- why a subscription ended, and the last change that it covers
pub record Ending : Type 0 where
  pub cause : Cause
  pub change : ℕ

-- A subscription: its query, its flags, the number of changes at its opening, its port and backlog,
-- whether its end was asked for, how many parcels were put into the port and how many taken from
-- it, and its end, if it has one.
pub record Subscribed : Type 0 where
  pub query : Query
  pub flags : Flags
  pub opened : ℕ
  pub port : ℕ
  pub backlog : ℕ
  pub hang_up_asked : Bool
  pub put : ℕ
  pub taken : ℕ
  pub end : Option Ending

-- the content of slot k is at index k - 1
pub record World : Type 0 where
  pub book : Book
  pub openings : ℕ
  pub slots : List (Option Subscribed)

-- the initial world of a server: 64 free slots
abbrev pub first_world : Book → World
first_world b = record { book = b; openings = 0; slots = replicate 64 None }

-- ---- the list of a subscription

-- the last change that a subscription covers: that of its end, or the book's while it is live
abbrev pub covered_by : Book → Option Ending → ℕ
covered_by b None = number_of b
covered_by b (Some e) = e.change

abbrev pub covered : Book → Subscribed → ℕ
covered b s = covered_by b s.end

-- the updates of a subscription, from its opening to the last change that it covers
abbrev pub updates_due : Book → Subscribed → List Message
updates_due b s = updates_of s.query s.flags b s.opened (covered b s)

-- the mark after this many updates, if the subscription has ended
abbrev pub mark_behind : ℕ → Option Ending → List Parcel
mark_behind n None = []
mark_behind n (Some e) = Fin (record { seq = n + 1; change = e.change; cause = e.cause }) ∷ []

-- the whole list: the updates, then the mark once the subscription has ended
abbrev pub whole : Book → Subscribed → List Parcel
whole b s = map (λ m. Update m) (updates_due b s) ++ mark_behind (length (updates_due b s)) s.end

-- the parcels in its port: those put and not taken
abbrev pub in_port : Book → Subscribed → List Parcel
in_port b s = drop s.taken (take s.put (whole b s))

-- the updates held, which aren't put into the port yet; and how many they are
abbrev pub waiting : Book → Subscribed → List Message
waiting b s = drop s.put (updates_due b s)

abbrev pub waiting_count : Book → Subscribed → ℕ
waiting_count b s = length (waiting b s)

-- what is still to be put: the updates held, then the mark if it has ended and this isn't put
abbrev pub to_come : Book → Subscribed → List Parcel
to_come b s = map (λ m. Update m) (waiting b s)
    ++ drop (s.put - length (updates_due b s)) (mark_behind (length (updates_due b s)) s.end)

abbrev pub is_live : Subscribed → Bool
is_live s = is_none s.end

-- whether it has ended, and its whole list was taken, with the mark
abbrev pub is_over : Book → Subscribed → Bool
is_over b s = if is_live s then false else s.taken == length (whole b s)

-- ---- steps of a subscription

abbrev pub with_end : Subscribed → Cause → ℕ → Subscribed
with_end s cause change = record s { end = Some (record { cause = cause; change = change }) }

abbrev pub with_hang_up_asked : Subscribed → Subscribed
with_hang_up_asked s = record s { hang_up_asked = true }

abbrev pub one_more_put : Subscribed → Subscribed
one_more_put s = record s { put = s.put + 1 }

abbrev pub one_more_taken : Subscribed → Subscribed
one_more_taken s = record s { taken = s.taken + 1 }

-- whether its port has room and a parcel of its list isn't put yet
abbrev pub can_put : Book → Subscribed → Bool
can_put b s = nat_lt (s.put - s.taken) s.port && nat_lt s.put (length (whole b s))

-- the first parcel in its port
abbrev pub first_in_port : Book → Subscribed → Option Parcel
first_in_port b s = if nat_lt s.taken s.put then slice_get (whole b s) s.taken else None

-- the number of messages that a lawful change makes for it
abbrev pub news : Book → Change_ → Subscribed → ℕ
news b c s = length (step_of s.query s.flags (state_of b) c (length (updates_due b s) + 1))

-- whether these are more than its backlog has room for
abbrev pub change_overruns : Book → Change_ → Subscribed → Bool
change_overruns b c s = nat_lt 0 (news b c s) && nat_lt s.backlog (waiting_count b s + news b c s)

abbrev pub overrun_if : Book → Subscribed → Bool → Subscribed
overrun_if b s true = with_end s Overrun (number_of b)
overrun_if b s false = s

-- the subscription after a change to a book: unchanged, or ended before the change
abbrev pub after_change : Book → Change_ → Subscribed → Subscribed
after_change b c s = overrun_if b s (is_live s && change_overruns b c s)

-- ---- slots

-- the subscription in a slot, if there is one
abbrev pub subscribed_at : World → ℕ → Option Subscribed
subscribed_at w slot = if slot == 0 then None else option_flatten (slice_get w.slots (slot - 1))

-- the number of taken slots before the first free one
abbrev pub taken_before_free : {T : Type 0} → List (Option T) → ℕ
taken_before_free [] = 0
taken_before_free (None ∷ slots) = 0
taken_before_free (Some s ∷ slots) = taken_before_free slots + 1

-- the world with this at an index of the slots
abbrev pub with_slot : World → ℕ → Option Subscribed → World
with_slot w place o = record w { slots = slice_set w.slots place o }
