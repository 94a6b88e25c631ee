-- What a change under the lock answers, and what it makes of the book, the volume and the seat of
-- its author.
use Rattle.std.specs.Prelude.{◌≡◌, ◌≢◌, ℕ, ◌≤◌, None, [], ◌∷◌, length, Result, IfOk, IfErr, OnOk, OnErr, Bool, false}
use Rattle.lq_value.specs.declared.refusal.Refusal.{Refusal}
use Rattle.lq_value.specs.declared.refusal.Refusal.TheVariants.{NoMemory}
use Rattle.lq_value.specs.Refusal.{IsRefusedBy}
use Rattle.lq_volume.specs.State.{State}
use Rattle.lq_volume.specs.declared.change.Change.{Change}
use Rattle.lq_volume.specs.declared.change.Applied.{Applied}
use Rattle.lq_volume.specs.declared.change.Resolved.{Resolved}
use Rattle.lq_volume.specs.Book.{Book, Extends, grown, state_of}
use Rattle.lq_volume.specs.Change.{refused, node_of}
use Rattle.lq_volume.specs.Plan.{resolved_of}
use Rattle.lq_board.specs.Author.{with_change}
use Rattle.lq_board.specs.Slot.{slot_at}
use Rattle.lq_board.specs.Token.{SeatToken}
use Rattle.lq_server_slots.specs.declared.identity.Identity.{Identity}
use Rattle.lq_server_slots.specs.declared.slots.ServerSlots.{ServerSlots}
use Rattle.lq_server_slots.specs.Slots.{AllPrepared, IsNoticed, SlotsAre, KeepsSlots, KnowsHeard, MarksCover, IsGrown, IsTakenNoticed, before_of}
use Rattle.lq_server_slots.specs.Turn.{AllNoticed}
use Rattle.lq_server_slots.specs.Standing.{HasPrepared, IsPreparedIf, SameButHeld}
use Rattle.lq_board.specs.Known.{KnownSlot}
use Rattle.lq_server_slots.specs.declared.subscription.Subscription.{Subscription}

-- A change was made, or refused. The volume was v and is w, the book b and d, the author's seat s
-- and t. Refused, the book and the seat stay. Made, it is the last of the book, under the number
-- that is answered, which is among the seat's own; the seat then knows the book.
pub record IsChangeMade (change : Change) (result : Result Applied Refusal) (v w : State)
    (b d : Book) (s t : SeatToken Identity) : Type 0 where
  pub refused : IsRefusedBy result (refused v change)
  pub node : IfOk result (λ applied. applied.node ≡ node_of v change)
  pub number : IfOk result (λ applied. applied.change ≡ length d.changes)
  pub ok : OnOk result (d ≡ grown b (change ∷ []))
  pub err : OnErr result (d ≡ b)
  pub start : d.start ≡ b.start
  pub limit : w.limit ≡ v.limit
  pub seat : OnOk result (t ≡ record s { book = d; author = t.author; moments = t.moments })
  pub author : IfOk result (λ applied. t.author ≡ with_change s.author applied.change)
  pub later : OnOk result (Extends b s.book)
  pub stays : OnErr result (t ≡ s)

-- A change of a volume was checked, and its messages were prepared in the slots that it is shown
-- to, or it was refused.
-- First each subscription ended whose reader had asked for that; its mark covers the changes so
-- far. The book stays, and so does what stands over it; what the keeper knows of asks only rises,
-- and is at least what it had heard.
pub record IsPrepared (v : State) (change : Change) (result : Result Resolved Refusal)
    (old new : ServerSlots) : Type 0 where
  pub lawful : OnOk result (refused v change ≡ None)
  pub resolved : IfOk result (λ r. r ≡ resolved_of v change)
  pub prepared : OnOk result (AllPrepared new.watch new.subscriptions v change)
  pub noticed : OnOk result (SlotsAre IsNoticed new.subscriptions new.keeper.slots)
  pub heard : OnOk result
      (KnowsHeard old.keeper.register.heard new.subscriptions new.keeper.slots)
  pub same : new.keeper.register.heard ≡ old.keeper.register.heard
  pub shown : OnOk result (AllNoticed old.keeper.book old.subscriptions new.subscriptions
      new.keeper.slots)
  pub tried : IfErr result (λ e. e ≢ NoMemory → new.subscriptions ≡ old.subscriptions)
  pub keeps : KeepsSlots old new
  pub marks : MarksCover v.number old.subscriptions new.subscriptions
  pub rises : (k : ℕ) → (slot_at old.keeper.slots k).asks ≤ (slot_at new.keeper.slots k).asks
  pub refused : IsRefusedBy result (refused v change)

-- A subscription, s before and t after, had the messages of a change prepared, unless memory ran
-- out. What it holds stays.
pub record Prepares (v : State) (change : Change) (full : Bool) (s t : Subscription) : Type 0 where
  pub held : t.sub.held ≡ s.sub.held
  pub others : SameButHeld s t
  pub first_close : t.first_close ≡ s.first_close
  pub prepared : full ≡ false → HasPrepared t.sub v change

-- a taken slot that stands over the book before its last change, the messages of which are prepared
-- if the slot is asked for them
pub record MayCommit (change : Change) (asked : Bool) (s : Subscription) (p : KnownSlot Identity)
    (book : Book) : Type 0 where
  pub grown : IsGrown book change
  pub stood : IsTakenNoticed s p (before_of book)
  pub prepared : IsPreparedIf asked s.sub (state_of (before_of book)) change
