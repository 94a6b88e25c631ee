-- What a reader has received, and what a read does.
use Rattle.std.specs.Prelude.{◌≡◌, ◌≢◌, ◌-◌, Bool, true, false, List, [], ◌∷◌, ◌++◌, length, take, map, Option, Some, None, IsSome, is_some, option_to_list, Result, Ok, IfOk, OnErr}
use mathlib.Core.List.{IsPrefix}
use Rattle.lq_value.specs.declared.refusal.Refusal.{Refusal}
use Rattle.lq_value.specs.Refusal.{FailsOnlyForMemory}
use Rattle.lq_volume.specs.Book.{Book, Extends, state_of}
use Rattle.lq_volume.specs.Result.{result_of}
use Rattle.lq_update.specs.declared.message.Message.{Message}
use Rattle.lq_update.specs.declared.mark.Mark.{Mark}
use Rattle.lq_update.specs.declared.parcel.Parcel.{Parcel}
use Rattle.lq_update.specs.declared.parcel.Parcel.TheVariants.{Update as told_update, Fin as told_fin}
use Rattle.lq_update.specs.Fold.{Folding, folding_after_all, opened_at}
use Rattle.lq_desk_sub.specs.declared.read.Read.{Read}
use Rattle.lq_desk_sub.specs.declared.read.Read.TheVariants.{Update, Fin, Empty, Ended}
use Rattle.lq_port.specs.End.{End, IsFront, IsSamePort}
use Rattle.lq_server_slots.specs.declared.delivery.Delivery.{Delivery}
use Rattle.lq_server_slots.specs.declared.delivery.Opening.{Opening}
use Rattle.lq_server_slots.specs.Rule.{floor_of, query_of, messages_in, mark_in, all_updates, IsMark}
use Rattle.lq_server_slots.specs.LegalList.{known_by, LegalList}

-- the port's end, the message in hand, and the result so far
pub record ReadingHold : Type 0 where
  pub port : End Delivery Opening
  pub hand : Option Message
  pub result : Folding

-- the result at the opening
abbrev pub opening_of : Opening → Folding
opening_of f = opened_at f.opened (result_of (query_of f) (state_of (floor_of f)))

-- the book that a reader knows
abbrev pub known_book : ReadingHold → Book
known_book r = known_by r.port.floor r.port.taken

-- the messages received: those that were taken, except the one in hand
abbrev pub received : ReadingHold → List Message
received r =
    take (length (messages_in r.port.taken) - length (option_to_list r.hand))
    (messages_in r.port.taken)

-- the message or the mark that was put
abbrev pub what_of : Delivery → Parcel
what_of p = p.what

-- the parcels that are known to wait, the message in hand first
abbrev pub ready : ReadingHold → List Parcel
ready r = map (λ m. told_update m) (option_to_list r.hand) ++ map what_of r.port.ahead

-- the mark, where it was read
abbrev pub mark_read : ReadingHold → Option Mark
mark_read r = mark_in r.port.taken

-- whether the mark was read
abbrev pub is_marked : ReadingHold → Bool
is_marked r = is_some (mark_read r)

-- What a read leaves. An `Update` was received; where parcels were known to wait, it was the first
-- of them. The mark comes after all messages. Otherwise nothing changes.
abbrev pub Gives : ReadingHold → ReadingHold → Read → Type 0
Gives old new (Update m) =
    (received new ≡ received old ++ m ∷ [])
    × IsFront (ready old) (told_update m) (ready new)
    × (mark_read new ≡ mark_read old)
Gives old new (Fin k) =
    (received new ≡ received old)
    × IsFront (ready old) (told_fin k) (ready new)
    × (mark_read old ≡ None)
    × (mark_read new ≡ Some k)
    × IsMark new.port.floor (received new) (known_book new) k
Gives old new Empty = (new ≡ old) × (ready old ≡ []) × (mark_read old ≡ None)
Gives old new Ended =
    (new ≡ old) × (ready old ≡ map what_of old.port.ahead) × IsSome (mark_read old)

-- memory ran out: a message is in hand, and is the first parcel known to wait
abbrev pub Fails : ReadingHold → ReadingHold → Type 0
Fails old new =
    (m : Message)
    × (rest : List Parcel)
    × (received new ≡ received old)
    × (ready new ≡ told_update m ∷ rest)
    × IsFront (ready old) (told_update m) rest
    × (mark_read new ≡ mark_read old)

-- the invariant of each reading, in terms of what contracts see of it
pub record IsTold (r : ReadingHold) : Type 0 where
  pub legal_list : LegalList r.port.floor r.port.taken
  pub all : messages_in r.port.taken ≡ received r ++ option_to_list r.hand
  pub folds : r.result ≡ folding_after_all (opening_of r.port.floor) (received r)
  pub no_hand : IsSome (mark_read r) → r.hand ≡ None

-- a read that waits never answers `Empty`
abbrev pub NeverEmpty : Bool → Result Read Refusal → Type 0
NeverEmpty true result = result ≢ Ok Empty
NeverEmpty false result = Unit {0}

-- Old is the reading before the read, and new after it. What is known of the book only grows, and
-- the messages received are a prefix of the updates over it. After the mark the answer is `Ended`.
-- Where memory ran out, a message is in hand.
pub record IsReadStep (waiting : Bool) (old new : ReadingHold) (result : Result Read Refusal)
    : Type 0 where
  pub refused : FailsOnlyForMemory result
  pub same : IsSamePort old.port new.port
  pub received : IsPrefix (received new) (all_updates new.port.floor (known_book new))
  pub known : Extends (known_book new) (known_book old)
  pub gives : IfOk result (Gives old new)
  pub fails : OnErr result (Fails old new)
  pub hand : OnErr result (IsSome new.hand)
  pub over : IsSome (mark_read old) → result ≡ Ok Ended
  pub waits : NeverEmpty waiting result
