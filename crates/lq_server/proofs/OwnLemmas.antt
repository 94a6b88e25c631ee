-- Readers whose seat is their own, and what calls leave of them.
use Rattle.std.proofs.Common.{◌≡◌, ℕ, ◌<◌, ◌≤◌, Bool, false, arith, [], ◌∷◌, length, Option, Some, None, refl, ◌∙◌, subst}
use Rattle.std.specs.Prelude.{◌==◌, Result, ok_or}
use mathlib.Core.List.{List}
use Rattle.lq_value.specs.declared.refusal.Refusal.{Refusal}
use Rattle.lq_value.specs.declared.refusal.Refusal.TheVariants.{NotOpen}
use Rattle.lq_value.specs.Refusal.{IsRefusedBy, first_refusal}
use Rattle.lq_volume.specs.State.{State}
use Rattle.lq_volume.specs.Book.{Book}
use Rattle.lq_server_slots.specs.Events.{opening_refusals}
use Rattle.lq_board.specs.Known.{KnownSlot}
use Rattle.lq_board.specs.Slot.{slot_at}
use Rattle.lq_board.specs.Token.{SeatToken}
use Rattle.lq_desk_sub.specs.SlotTable.{first_free}
use Rattle.lq_server_slots.specs.declared.identity.Identity.{Identity}
use Rattle.lq_server_slots.specs.Reading.{ReadingHold, IsTold}
use Rattle.lq_server_slots.specs.declared.subscription.Subscription.{Subscription}
use Rattle.lq_server_slots.specs.declared.slots.ServerSlots.{ServerSlots}
use Rattle.lq_server_slots.specs.Slots.{AreConsistent, asks_of, slot_in}
use Rattle.lq_server_slots.specs.Opening.{IsOpeningTabled}
use Rattle.lq_server_slots.specs.Hold.{ReaderHold}
use Rattle.lq_server_slots.specs.Own.{IsOwn}
use Rattle.lq_server_slots.specs.Closing.{IsClosing}
use Rattle.lq_server.specs.Closed.{IsCloseAnswer}
use Rattle.lq_server.specs.Opened.{first_opening_refusal}
use Rattle.lq_server.proofs.SyncLemmas.{own_renamed, synced}

-- what a contract sees of a reader's parts
abbrev pub hold : ReadingHold → SeatToken Identity → ℕ → Bool → ReaderHold
hold reading seat slot hang_up_asked =
    record { reading = reading; seat = seat; slot = slot; hang_up_asked = hang_up_asked }

-- what a close of the seat answers is what it answers the reader
pub closed_answer : (r : ReaderHold) (seat : SeatToken Identity) (reading : ReadingHold)
    (o : Option ℕ) → IsOwn r → IsTold r.reading → IsClosing r.seat seat r.reading reading o
    → IsCloseAnswer r (record r { reading = reading; seat = seat }) (ok_or o NotOpen)
closed_answer r seat reading o own told c =
    let mid : ReaderHold = record r { seat = c.mid } in
    let s = synced c.subscription mid seat reading c.progress c.shown told
    (own_renamed r c.mid r.reading _ _ own (refl, refl, refl) c.closed.seat c.closed.name) _ refl in
    record {
      own = s.own;
      number = grind arith;
      first = grind arith;
      refused = grind arith;
      late = λ asked. grind (arith, c.closed.late);
      later = rw c.same c.closed.later;
      seat = c.shown.seat
          ∙ (λ i. record (c.closed.seat i) { book = seat.book; name = seat.name });
      slot = refl;
      hang_up_asked = refl;
      mid = mid;
      rest = refl;
      first_close = grind arith;
      same = c.same;
      x = _;
      synced = s;
    }

-- where nothing was opened, a slot is free
none_opened : (o : Option Subscription) (p : KnownSlot Identity) → asks_of o p ≤ 0 → o ≡ None
none_opened o p few = grind arith

-- where the first slot is free, not all are taken
not_all : (slots : List (Option Subscription)) → 0 < length slots → slot_in slots 0 ≡ None
    → (first_free slots == 64) ≡ false
not_all [] long free = absurd (omega arith)
not_all (None ∷ slots) long free = refl
not_all (Some t ∷ slots) long free = absurd (cc)

-- so where none was opened, an opening is answered as the first at a server
pub first_opening : {T : Type 0} (under : ServerSlots) (book : Book) (start : State)
    (port backlog : ℕ) (result : Result T Refusal) → AreConsistent under book
    → under.openings ≡ 0 → IsOpeningTabled under start.limit port backlog result
    → IsRefusedBy result (first_opening_refusal start port backlog)
first_opening under book start port backlog result stands none table =
    let free : (first_free under.subscriptions == 64) ≡ false =
    not_all under.subscriptions (omega (arith, stands.wide))
    (none_opened _ (slot_at under.keeper.slots 1)
    (omega (arith, stands.asks 0 (omega arith), none))) in
    subst (IsRefusedBy result)
    (λ i. first_refusal (opening_refusals (free i) (none i) start.limit port backlog)) table
