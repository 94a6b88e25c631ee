-- A slot after a change, by whether messages were made in it.
use Rattle.std.proofs.Common.{◌≡◌, ◌+◌, ℕ, [], List, true, inl, inr, sym, ap, arith, append-nil}
use Rattle.std.proofs.lemmas.Bool.{cases_Bool}
use Rattle.lq_volume.specs.declared.change.Change.{Change}
use Rattle.lq_volume.specs.State.{State}
use Rattle.lq_update.specs.declared.message.Message.{Message}
use Rattle.lq_desk_sub.specs.Held.{Held, after_messages, is_live, messages_due}
use Rattle.lq_desk.specs.Slot.{PreparedSlot, committed_slot, slot_after, slot_of}
use Rattle.lq_desk.specs.Words.{AreMadeIn}

-- where there are no messages, what is held stays
told-none : (h : Held) (ready : List Message) (before : ℕ) → ready ≡ []
    → after_messages h ready before ≡ h
told-none h ready before none =
    let sent : h.sent + 0 ≡ h.sent = omega arith in
    rw none (rw (sent, append-nil h.messages))

-- a slot with the messages made that is committed is as after the change
pub committed-after : (s : State) (c : Change) (p : PreparedSlot)
    → (is_live p.sub.held ≡ true → AreMadeIn s c p)
    → slot_of (committed_slot p) ≡ slot_after s c (slot_of p)
committed-after s c p made = elim (cases_Bool (is_live p.sub.held)) [
  | inl live ↦ rw (live, (made live).ready, (made live).before)
  | inr dead ↦ rw dead
]

-- one that the change has no message for is as after it
pub none-after : (s : State) (c : Change) (p : PreparedSlot)
    → (is_live p.sub.held ≡ true → messages_due s c p.sub.held ≡ [])
    → slot_of p ≡ slot_after s c (slot_of p)
none-after s c p none = elim (cases_Bool (is_live p.sub.held)) [
  | inl live ↦ rw live (sym (ap (λ held. record (slot_of p) { held = held })
      (told-none p.sub.held (messages_due s c p.sub.held) s.number (none live))))
  | inr dead ↦ rw dead
]
