-- What the lock knows of a subscription.
use Rattle.std.specs.Prelude.{◌≡◌, ◌≢◌, ℕ, ◌+◌, ◌*◌, ◌<◌, ◌≤◌, ◌⊎◌, Bool, true, false, List, [], ◌++◌, length, Option, Some, None, IfSome, IsSome, IsSomeAnd, if◌then◌else◌}
use Rattle.lq_predicate.specs.Query.{Query}
use Rattle.lq_volume.specs.State.{State}
use Rattle.lq_volume.specs.Book.{Book, Extends}
use Rattle.lq_volume.specs.declared.change.Change.{Change}
use Rattle.lq_board.specs.Book.{IsFullBook}
use Rattle.lq_update.specs.declared.open_options.Flags.{Flags}
use Rattle.lq_update.specs.declared.message.Message.{Message}
use Rattle.lq_update.specs.declared.mark.Mark.{Mark}
use Rattle.lq_update.specs.declared.mark.Cause.TheVariants.{Closed, Overrun}
use Rattle.lq_update.specs.Updates.{step_of}
use Rattle.lq_desk_sub.specs.Held.{Held, Prepared}
use Rattle.lq_desk_sub.specs.Passing.{TellsNothing}
use Rattle.lq_port.specs.End.{End, all_put, IsSamePort, AreBeside}
use Rattle.lq_server_slots.specs.declared.identity.FirstClose.{FirstClose}
use Rattle.lq_server_slots.specs.declared.identity.FirstClose.TheVariants.{Never, At, Late}
use Rattle.lq_server_slots.specs.declared.identity.LastReport.{LastReport}
use Rattle.lq_server_slots.specs.declared.identity.LastReport.TheVariants.{Live, Ended}
use Rattle.lq_server_slots.specs.declared.delivery.Delivery.{Delivery}
use Rattle.lq_server_slots.specs.declared.delivery.Opening.{Opening}
use Rattle.lq_server_slots.specs.declared.subscription.Subscription.{Subscription}
use Rattle.lq_server_slots.specs.Updates.{updates}
use Rattle.lq_server_slots.specs.Rule.{query_of, messages_in, mark_in, MayFollow}
use Rattle.lq_server_slots.specs.LegalList.{known_by}

-- the messages that were put, and then those that are held
abbrev pub messages_given : Held → End Delivery Opening → List Message
messages_given h e = messages_in (all_put e) ++ h.messages

-- the change up to which the subscription follows, of n changes
abbrev pub upto : Option Mark → ℕ → ℕ
upto None n = n
upto (Some k) n = k.change

-- the mark, if it was put
abbrev pub moved_mark : Bool → Option Mark → Option Mark
moved_mark true o = o
moved_mark false o = None

-- the answer of the first close agrees with the mark
abbrev pub FirstCloseFits : FirstClose → Option Mark → Type 0
FirstCloseFits Never o = IfSome o (λ k. k.cause ≢ Closed)
FirstCloseFits (At n) o = IsSomeAnd o (λ k. (k.cause ≡ Closed) × (k.change ≡ n))
FirstCloseFits Late o = IsSomeAnd o (λ k. k.cause ≢ Closed)

-- what a reader is told after this many changes, where it has taken this many parcels
abbrev pub report_of : ℕ → ℕ → Option Mark → LastReport
report_of n seen None = Live n seen
report_of n seen (Some k) = Ended k

-- how many parcels had been taken when it was told, while the subscription was live
abbrev pub seen_of : LastReport → ℕ
seen_of (Live n seen) = seen
seen_of (Ended k) = 0

-- What was told stays true over n changes: a mark is the same, and where none was told, one comes
-- for no change before.
abbrev pub StaysTrue : LastReport → Option Mark → ℕ → Type 0
StaysTrue (Live m seen) mark n = m ≤ upto mark n
StaysTrue (Ended k) mark n = mark ≡ Some k

-- Change e + 1 was too much. It has messages, and the messages up to it are more than the backlog.
-- Where its own messages are within the backlog, those up to it are more than port and backlog
-- together, and those that had been taken when the reader was last told.
pub record IsOverrun
    (query : Query) (flags : Flags) (opened places backlog seen : ℕ) (book : Book) (e : ℕ)
    : Type 0 where
  pub within : e < length book.changes
  pub some :
      length (updates query flags book opened e) < length (updates query flags book opened (e + 1))
  pub many : backlog < length (updates query flags book opened (e + 1))
  pub more :
      length (updates query flags book opened (e + 1))
      ≤ length (updates query flags book opened e) + backlog
      → places + backlog + seen < length (updates query flags book opened (e + 1))

-- A subscription stands over a book: the messages that were put and then those that are held are
-- its updates over that book, up to its mark or else to the end. A mark is put last and has its
-- cause.
pub record Stands
    (h : Held) (e : End Delivery Opening) (places : ℕ) (last_report : LastReport)
    (answer : FirstClose)
    (book : Book)
    : Type 0 where
  pub query : query_of e.floor ≡ h.query
  pub moves : e.floor.flags ≡ h.flags
  pub opening : e.floor.opened ≡ h.opened
  pub port : e.places ≡ places
  pub full : IsFullBook book
  pub later : Extends book (known_by e.floor (all_put e))
  pub list : messages_given h e ≡ updates h.query h.flags book h.opened
      (upto h.mark (length book.changes))
  pub sent : h.sent ≡ length (messages_given h e)
  pub few : h.sent ≤ 3 * length book.changes
  pub bounded : length h.messages ≤ h.backlog
  pub opened : h.opened ≤ upto h.mark (length book.changes)
  pub mark : IfSome h.mark (λ k. (k.seq ≡ h.sent + 1) × (k.change ≤ length book.changes))
  pub out : mark_in (all_put e) ≡ moved_mark h.mark_out h.mark
  pub done : h.mark_out ≡ true → (h.messages ≡ []) × IsSome h.mark
  pub still : StaysTrue last_report h.mark (length book.changes)
  pub first_close : FirstCloseFits answer h.mark
  pub overrun :
      IfSome h.mark
      (λ k. k.cause ≡ Overrun
      → IsOverrun h.query h.flags h.opened places h.backlog (seen_of last_report) book k.change)

-- and for a subscription under the lock
abbrev pub IsConsistentAt : Subscription → Book → Type 0
IsConsistentAt s book = Stands s.sub.held s.input s.places s.last_report.value s.first_close book

-- messages are held only where as many as the port has places were put, beside those that had been
-- taken when the reader was last told
abbrev pub IsFilled : Subscription → Type 0
IsFilled s =
    0 < length s.sub.held.messages
    → s.places + seen_of s.last_report.value ≤ length (messages_in (all_put s.input))

-- what had been taken when the reader was last told is known to be taken
abbrev pub IsSeen : Subscription → Type 0
IsSeen s = seen_of s.last_report.value ≤ length s.input.taken

-- what never changes of a subscription, and its mark and count
pub record SameHeld (h t : Held) : Type 0 where
  pub query : t.query ≡ h.query
  pub flags : t.flags ≡ h.flags
  pub opened : t.opened ≡ h.opened
  pub backlog : t.backlog ≡ h.backlog
  pub sent : t.sent ≡ h.sent
  pub mark : t.mark ≡ h.mark

-- only what was put and what is held may differ; the list of both together stays
pub record SameButPuts (s t : Subscription) : Type 0 where
  pub port : IsSamePort s.input t.input
  pub held : SameHeld s.sub.held t.sub.held
  pub places : t.places ≡ s.places
  pub asks : t.asks ≡ s.asks
  pub last_report : t.last_report ≡ s.last_report
  pub first_close : t.first_close ≡ s.first_close
  pub given_same : messages_given t.sub.held t.input ≡ messages_given s.sub.held s.input

-- the most parcels that are left to put
abbrev pub left_of : Held → ℕ
left_of h = length h.messages + (if h.mark_out then 0 else 1)

-- and for a subscription under the lock
abbrev pub left_to_put : Subscription → ℕ
left_to_put s = left_of s.sub.held

-- nothing is left to put
abbrev pub IsOut : Held → Type 0
IsOut h = (h.messages ≡ []) × ((h.mark ≡ None) ⊎ (h.mark_out ≡ true))

-- nothing is left to put, or the port was full
abbrev pub CannotPut : Subscription → Type 0
CannotPut s = IsOut s.sub.held ⊎ (s.places ≤ length s.input.ahead)

-- both ends of the port were seen together, and everything that could be put was put
pub record SideBySide
    (s t : Subscription) (d e : End Delivery Opening) (book : Book) (waiting : ℕ)
    : Type 0 where
  pub stands : IsConsistentAt t book
  pub alike : SameButPuts s t
  pub ends : AreBeside MayFollow d e t.input t.input waiting

-- nothing is left to put, or the port is full
abbrev pub IsDrained : Subscription → ℕ → Type 0
IsDrained s waiting = IsOut s.sub.held ⊎ (s.places ≤ waiting)

-- the messages of a change are prepared, if the subscription is live
abbrev pub HasPrepared : Prepared → State → Change → Type 0
HasPrepared p s c =
    p.held.mark ≡ None
    → (p.ready ≡ step_of p.held.query p.held.flags s c (p.held.sent + 1))
    × (p.before ≡ s.number)

-- the messages of a change are prepared for a subscription that is asked, and for another the
-- change has none
pub record IsPreparedIf (asked : Bool) (p : Prepared) (s : State) (c : Change) : Type 0 where
  pub some : asked ≡ true → HasPrepared p s c
  pub none : asked ≡ false → TellsNothing p.held.query p.held.flags c

-- what a subscription asks for stays
abbrev pub SameQuery : Subscription → Subscription → Type 0
SameQuery s t = (t.sub.held.query ≡ s.sub.held.query) × (t.sub.held.flags ≡ s.sub.held.flags)

-- everything but the held messages, their count, the mark and the answer of the close stays
pub record SameButHeld (s t : Subscription) : Type 0 where
  pub input : t.input ≡ s.input
  pub query : t.sub.held.query ≡ s.sub.held.query
  pub flags : t.sub.held.flags ≡ s.sub.held.flags
  pub opened : t.sub.held.opened ≡ s.sub.held.opened
  pub backlog : t.sub.held.backlog ≡ s.sub.held.backlog
  pub places : t.places ≡ s.places
  pub asks : t.asks ≡ s.asks
  pub last_report : t.last_report ≡ s.last_report
