-- What an opening under the lock leaves in its seat, and over which slots it was answered.
use Rattle.std.specs.Prelude.{◌≡◌, ◌≤◌, [], ◌∷◌, ◌++◌, ℕ, IfOk, Result}
use Rattle.lq_value.specs.declared.refusal.Refusal.{Refusal}
use Rattle.lq_volume.specs.State.{State}
use Rattle.lq_board.specs.Token.{SeatToken, moment_of}
use Rattle.lq_server_slots.specs.declared.identity.Identity.{Identity}
use Rattle.lq_server_slots.specs.declared.open.Opened.{Opened}
use Rattle.lq_server_slots.specs.declared.slots.ServerSlots.{ServerSlots}
use Rattle.lq_server_slots.specs.Opening.{IsOpeningAnswer}
use Rattle.lq_server_slots.specs.Slots.{AreConsistent}

-- The seat, `old` before and `new` after, has recorded one moment more: that of the keeper of these
-- slots, which has counted their openings.
pub record HasNoted (old new : SeatToken Identity) (under : ServerSlots) : Type 0 where
  pub moments : new.moments ≡ old.moments ++ moment_of under.keeper ∷ []
  pub counted : under.openings ≡ under.keeper.register.openings

-- Over these slots an opening by this seat was answered under the lock, before it was a reader.
pub record IsOpenedOver (under : ServerSlots) (start : State) (old new : SeatToken Identity)
    (port backlog : ℕ) (result : Result Opened Refusal) : Type 0 where
  pub keeps : under.keeper.book ≡ new.book
  pub stands : AreConsistent under new.book
  pub noted : HasNoted old new under
  pub openings : under.openings ≤ start.limit
  pub answered : IsOpeningAnswer (λ (o : Opened). o.slot) under start.limit port backlog result
  pub keeper : IfOk result (λ o. o.reading.port.floor.book.value ≡ under.keeper)
