-- The contents of a taken slot, a subscription and its port, and what each act does there.
use Rattle.std.specs.Prelude.{ℕ, zero, suc, List, [], ◌∷◌, ◌++◌, length, drop, Bool, true, false, ◌&&◌, ◌||◌, ◌==◌, nat_lt, Option, Some, None, is_some, unwrap_or, slice_get, if◌then◌else◌}
use Rattle.lq_value.specs.declared.refusal.Refusal.TheVariants.{NotOpen, StillOpen}
use Rattle.lq_predicate.specs.Query.{Query}
use Rattle.lq_volume.specs.declared.change.Change.{Change}
use Rattle.lq_volume.specs.State.{State}
use Rattle.lq_update.specs.declared.open_options.OpenOptions.{OpenOptions}
use Rattle.lq_update.specs.declared.parcel.Parcel.{Parcel}
use Rattle.lq_update.specs.declared.mark.Cause.TheVariants.{Closed, HungUp}
use Rattle.lq_desk_world.specs.Events.{Answer, Moved, Took, Empty, Ended, Asked, Noticed, Shut, Finished, Refused}
use Rattle.lq_desk_sub.specs.Held.{Held, Prepared, opened_with, is_live, held_after, committed, ended_by, next_parcel, without_parcel}

-- the subscription, the number of places of its port, the parcels in it, and whether its end was
-- asked for
pub record KeptSlot : Type 0 where
  pub held : Held
  pub port : ℕ
  pub queue : List Parcel
  pub hang_up_asked : Bool

-- a slot with the messages of a change that isn't made yet
pub record PreparedSlot : Type 0 where
  pub sub : Prepared
  pub port : ℕ
  pub queue : List Parcel
  pub hang_up_asked : Bool

-- the slot without those messages
abbrev pub slot_of : PreparedSlot → KeptSlot
slot_of p = record {
  held = p.sub.held;
  port = p.port;
  queue = p.queue;
  hang_up_asked = p.hang_up_asked;
}

-- a slot as an opening makes it
abbrev pub fresh_slot : Query → ℕ → OpenOptions → KeptSlot
fresh_slot q at o = record {
  held = opened_with q o.flags at o.backlog;
  port = o.port;
  queue = [];
  hang_up_asked = false;
}

-- ---- a change, for live subscriptions

-- a slot after a change
abbrev pub slot_after : State → Change → KeptSlot → KeptSlot
slot_after s c k = if is_live k.held then record k { held = held_after s c k.held } else k

-- a slot with the messages committed that were made in it
abbrev pub committed_slot : PreparedSlot → PreparedSlot
committed_slot p = if is_live p.sub.held then record p { sub = committed p.sub } else p

-- ---- the acts: the answer, and the contents of the slot afterwards

-- a put of the next parcel, if there is one and the port has room
abbrev pub put_if : KeptSlot → Bool → Option Parcel → Answer × Option KeptSlot
put_if k true (Some p) = (
  Moved true,
  Some (record k {
    held = without_parcel k.held (Some p);
    queue =
        k.queue ++ p ∷ [];
  }),
)
put_if k true None = (Moved false, Some k)
put_if k false o = (Moved false, Some k)

-- a put: the next parcel goes into the port, if there is room
abbrev pub put_slot : KeptSlot → Answer × Option KeptSlot
put_slot k = put_if k (nat_lt (length k.queue) k.port) (next_parcel k.held)

-- whether its mark was put into the port, and the port is empty
abbrev pub is_mark_read : KeptSlot → Bool
is_mark_read k = k.held.mark_out && (length k.queue == 0)

-- a read of the first parcel, if there is one
abbrev pub read_if : KeptSlot → Option Parcel → Answer × Option KeptSlot
read_if k (Some p) = (Took p, Some (record k { queue = drop 1 k.queue }))
read_if k None = (if is_mark_read k then Ended else Empty, Some k)

-- a read from the port
abbrev pub read_slot : KeptSlot → Answer × Option KeptSlot
read_slot k = read_if k (slice_get k.queue 0)

-- a request to end
abbrev pub ask_slot : KeptSlot → Answer × Option KeptSlot
ask_slot k = (Asked, Some (record k { hang_up_asked = true }))

-- it ends as hung up, if it is live and its end was asked for
abbrev pub notice_if : ℕ → KeptSlot → Bool → Answer × Option KeptSlot
notice_if number k true = (Noticed true, Some (record k { held = ended_by k.held HungUp number }))
notice_if number k false = (Noticed false, Some k)

-- the notice that its end was asked for
abbrev pub notice_slot : ℕ → KeptSlot → Answer × Option KeptSlot
notice_slot number k = notice_if number k (is_live k.held && k.hang_up_asked)

-- it ends as closed, if it is live
abbrev pub close_if : ℕ → KeptSlot → Bool → Answer × Option KeptSlot
close_if number k true = (Shut number, Some (record k { held = ended_by k.held Closed number }))
close_if number k false = (Refused NotOpen, Some k)

-- a close
abbrev pub close_slot : ℕ → KeptSlot → Answer × Option KeptSlot
close_slot number k = close_if number k (is_live k.held)

-- the slot becomes free, if all was read
abbrev pub finish_if : KeptSlot → Bool → Answer × Option KeptSlot
finish_if k true = (Finished, None)
finish_if k false = (Refused StillOpen, Some k)

-- a finish
abbrev pub finish_slot : KeptSlot → Answer × Option KeptSlot
finish_slot k = finish_if k (is_mark_read k)

-- ---- which slots have work to do, and their contents afterwards

-- whether a slot's contents pass a test; a free slot doesn't
abbrev pub passes : {T : Type 0} → (T → Bool) → Option T → Bool
passes test None = false
passes test (Some x) = test x

-- a live subscription whose end was asked for
abbrev pub is_ending : KeptSlot → Bool
is_ending k = is_live k.held && k.hang_up_asked

-- a slot after a notice
abbrev pub noticed : ℕ → KeptSlot → KeptSlot
noticed number k = if is_ending k then record k { held = ended_by k.held HungUp number } else k

-- whether a put would move a parcel
abbrev pub can_move : KeptSlot → Bool
can_move k = nat_lt (length k.queue) k.port && is_some (next_parcel k.held)

-- whether a notice or a put would change the slot
abbrev pub has_work : KeptSlot → Bool
has_work k = is_ending k || can_move k

-- a slot after one put
abbrev pub after_put : KeptSlot → KeptSlot
after_put k = unwrap_or (put_slot k).1 k

-- a slot after several puts
abbrev pub after_puts : ℕ → KeptSlot → KeptSlot
after_puts zero k = k
after_puts (suc n) k = after_puts n (after_put k)

-- a slot after as many puts as its port has places: nothing moves after them
abbrev pub filled : KeptSlot → KeptSlot
filled k = after_puts k.port k
