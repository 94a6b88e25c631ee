-- A subscription in the code: how it was opened, what it holds, and its mark.
use Rattle.std.specs.Prelude.{◌≡◌, ℕ, ◌+◌, List, [], ◌∷◌, ◌++◌, length, drop, Bool, true, false, ◌&&◌, nat_lt, Option, Some, None, is_none}
use Rattle.lq_predicate.specs.Query.{Query}
use Rattle.lq_volume.specs.declared.change.Change.{Change}
use Rattle.lq_volume.specs.State.{State}
use Rattle.lq_update.specs.declared.message.Message.{Message}
use Rattle.lq_update.specs.declared.open_options.Flags.{Flags}
use Rattle.lq_update.specs.declared.mark.Mark.{Mark}
use Rattle.lq_update.specs.declared.mark.Cause.{Cause}
use Rattle.lq_update.specs.declared.mark.Cause.TheVariants.{Overrun}
use Rattle.lq_update.specs.declared.parcel.Parcel.{Parcel}
use Rattle.lq_update.specs.declared.parcel.Parcel.TheVariants.{Update, Fin}
use Rattle.lq_update.specs.Updates.{step_of}

-- The query, its flags, the number of changes at the opening, and the backlog; the number of
-- messages made so far, and those held; the mark, if the subscription has ended, and whether the
-- mark went out.
pub record Held : Type 0 where
  pub query : Query
  pub flags : Flags
  pub opened : ℕ
  pub backlog : ℕ
  pub sent : ℕ
  pub messages : List Message
  pub mark : Option Mark
  pub mark_out : Bool

-- the same with the messages of a change that are made and not held yet, the number of changes
-- before it, and whether there is room to put a parcel back
pub record Prepared : Type 0 where
  pub held : Held
  pub ready : List Message
  pub before : ℕ
  pub lent : Bool

-- a subscription as it is opened
abbrev pub opened_with : Query → Flags → ℕ → ℕ → Held
opened_with q flags at backlog = record {
  query = q;
  flags = flags;
  opened = at;
  backlog = backlog;
  sent = 0;
  messages = [];
  mark = None;
  mark_out = false;
}

-- the subscription hasn't ended
abbrev pub is_live : Held → Bool
is_live h = is_none h.mark

-- ---- a change

-- with these messages added to those held
abbrev pub with_messages : Held → List Message → Held
with_messages h messages =
    record h { sent = h.sent + length messages; messages = h.messages ++ messages }

-- ended: the mark has the number after that of the last message
abbrev pub ended_by : Held → Cause → ℕ → Held
ended_by h cause change =
    record h { mark = Some (record { seq = h.sent + 1; change = change; cause = cause }) }

-- whether messages are more than the backlog has room for
abbrev pub overruns : Held → List Message → Bool
overruns h messages =
    nat_lt 0 (length messages) && nat_lt h.backlog (length h.messages + length messages)

-- the messages are held, or the subscription ends before their change
abbrev pub after_messages_by : Held → List Message → ℕ → Bool → Held
after_messages_by h messages before true = ended_by h Overrun before
after_messages_by h messages before false = with_messages h messages

-- the messages of the change are held, or too many, and the subscription ended before the change
abbrev pub after_messages : Held → List Message → ℕ → Held
after_messages h messages before = after_messages_by h messages before (overruns h messages)

-- the messages that a change to the state has for the subscription
abbrev pub messages_due : State → Change → Held → List Message
messages_due s c h = step_of h.query h.flags s c (h.sent + 1)

-- a live subscription after a change to the state
abbrev pub held_after : State → Change → Held → Held
held_after s c h = after_messages h (messages_due s c h) s.number

-- with the messages of the change made ready
abbrev pub prepared_for : State → Change → Prepared → Prepared
prepared_for s c p = record p { ready = messages_due s c p.held; before = s.number }

-- If a live subscription has messages of the change, they are made ready; else what is held stays,
-- and what was made ready before is of no use.
pub record IsReadied (s : State) (c : Change) (told : Bool) (old new : Prepared) : Type 0 where
  pub any : told ≡ (is_live old.held && nat_lt 0 (length (messages_due s c old.held)))
  pub ready : told ≡ true → new ≡ prepared_for s c old
  pub held : new.held ≡ old.held
  pub lent : new.lent ≡ old.lent

-- with the messages made ready committed
abbrev pub committed : Prepared → Prepared
committed p = record p { held = after_messages p.held p.ready p.before; ready = [] }

-- what is held, without the messages made ready
abbrev pub held_of : Prepared → Held
held_of p = p.held

-- ---- its parcels in order: the messages held, then the mark

-- the next parcel: the first message, or a mark that hasn't gone out
abbrev pub next_of : List Message → Option Mark → Bool → Option Parcel
next_of (m ∷ messages) mark mark_out = Some (Update m)
next_of [] None mark_out = None
next_of [] (Some mark) true = None
next_of [] (Some mark) false = Some (Fin mark)

-- the next parcel of a subscription
abbrev pub next_parcel : Held → Option Parcel
next_parcel h = next_of h.messages h.mark h.mark_out

-- without the parcel that goes out
abbrev pub without_parcel : Held → Option Parcel → Held
without_parcel h None = h
without_parcel h (Some (Update m)) = record h { messages = drop 1 h.messages }
without_parcel h (Some (Fin mark)) = record h { mark_out = true }

-- with a parcel put back
abbrev pub with_back : Held → Parcel → Held
with_back h (Update m) = record h { messages = m ∷ h.messages }
with_back h (Fin mark) = record h { mark_out = false }

-- whether there is room to put a parcel back: a message uses the room of the latest one taken
abbrev pub fits_back : Bool → Parcel → Bool
fits_back lent (Update m) = lent
fits_back lent (Fin mark) = true
