-- What a close answers its reader.
use Rattle.std.specs.Prelude.{◌≡◌, ℕ, length, true, Result, Some, Err, IfOk, IfErr, is_ok}
use Rattle.lq_value.specs.declared.refusal.Refusal.{Refusal}
use Rattle.lq_value.specs.declared.refusal.Refusal.TheVariants.{NotOpen}
use Rattle.lq_volume.specs.Book.{Extends}
use Rattle.lq_server_slots.specs.declared.identity.FirstClose.TheVariants.{Never}
use Rattle.lq_server_slots.specs.Marking.{after_close}
use Rattle.lq_server_slots.specs.Opening.{name_or}
use Rattle.lq_server_slots.specs.Hold.{ReaderHold}
use Rattle.lq_server_slots.specs.Own.{IsOwn}
use Rattle.lq_server.specs.Syncing.{IsSynced}
use Rattle.lq_server.specs.declared.server.Synced.{Synced}

-- Old and new are the reader before and after a close. Only its first close may answer the number
-- of changes, and not where it had asked for the end. Otherwise it is refused with `NotOpen`.
pub record IsCloseAnswer (old new : ReaderHold) (result : Result ℕ Refusal) : Type 0 where
  pub own : IsOwn new
  pub number : IfOk result (λ n. n ≡ length new.seat.book.changes)
  pub first : IfOk result (λ _. (name_or old.seat.name).first_close ≡ Never)
  pub refused : IfErr result (λ e. e ≡ NotOpen)
  pub late : old.hang_up_asked ≡ true → result ≡ Err NotOpen
  pub later : Extends new.seat.book old.seat.book
  pub seat : new.seat ≡ record old.seat { book = new.seat.book; name = new.seat.name }
  pub slot : new.slot ≡ old.slot
  pub hang_up_asked : new.hang_up_asked ≡ old.hang_up_asked
  -- once closed it was `mid`, whose seat's name says what the first close answered
  pub mid : ReaderHold
  pub rest : mid ≡ record old { seat = mid.seat }
  pub first_close : mid.seat.name
      ≡ Some (record (name_or old.seat.name) {
        first_close = after_close (name_or old.seat.name).first_close (is_ok result)
            (length mid.seat.book.changes);
      })
  -- and then, in the same hold of the lock, its progress was x
  pub same : new.seat.book ≡ mid.seat.book
  pub x : Synced
  pub synced : IsSynced mid new x
