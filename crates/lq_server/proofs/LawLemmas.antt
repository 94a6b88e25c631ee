-- What follows of the answers of a reader's calls.
use Rattle.std.proofs.Common.{◌≡◌, ◌≢◌, false, [], true≢false, ⊎_elim, arith, Some, Ok, Err, refl, sym, ap, ◌∙◌, append-nil}
use Rattle.lq_value.specs.declared.refusal.Refusal.{Refusal}
use Rattle.lq_update.specs.declared.mark.Mark.{Mark}
use Rattle.lq_update.specs.declared.mark.Cause.{Cause}
use Rattle.lq_update.specs.declared.mark.Cause.TheVariants.{Closed, HungUp, Overrun}
use Rattle.lq_desk_sub.specs.declared.read.Read.{Read}
use Rattle.lq_server_slots.specs.declared.identity.FirstClose.TheVariants.{Never}
use Rattle.lq_server_slots.specs.Rule.{mark_in}
use Rattle.lq_server_slots.specs.Opening.{name_or}
use Rattle.lq_server_slots.specs.Reading.{ReadingHold}
use Rattle.lq_server.specs.Closed.{IsCloseAnswer}
use Rattle.lq_server.specs.Headline.{GoesOn, IsAnswered}
use Rattle.lq_server_slots.specs.Hold.{ReaderHold}
use Rattle.lq_server.specs.Laws.{HasOverrun}
use Rattle.lq_server.specs.Syncing.{IsWaitingRead}

-- an answer of `read_waiting`, by whether the mark was read before
pub waiting_answer : (old new : ReaderHold) (a : Read) → IsWaitingRead old new (Ok a)
    → (mid : ReadingHold) × GoesOn old.reading mid × IsAnswered mid new.reading a
waiting_answer old new a w =
    ⊎_elim
    (λ h. (
      old.reading,
      record {
        port = (refl, refl, refl);
        known = ([], rw append-nil);
        received = refl;
        mark = refl;
      },
      grind arith,
    ))
    (λ h.
    let s = h.1.2 in (
      h.1.0.reading,
      record {
        port = s.port;
        known = ([], rw (s.known_stays, append-nil));
        received = s.received_stays;
        mark = ap mark_in s.taken;
      },
      grind arith,
    ))
    w.gives

-- a cause that is no close and no hang-up
is_overrun : (c : Cause) → c ≢ Closed → c ≢ HungUp → c ≡ Overrun
is_overrun Closed closed hung = absurd (closed refl)
is_overrun HungUp closed hung = absurd (hung refl)
is_overrun Overrun closed hung = refl

-- a first close that is refused
pub refused_late : (old new : ReaderHold) (e : Refusal) → IsCloseAnswer old new (Err e)
    → (name_or old.seat.name).first_close ≡ Never → old.hang_up_asked ≡ false
    → HasOverrun (name_or old.seat.name) new.seat.book
refused_late old new e a never unasked =
    let m : (k : Mark) × (a.x.mark ≡ Some k) × (k.cause ≢ Closed) = grind arith in
    let stays = ap (λ (r : ReaderHold). r.hang_up_asked) a.rest in
    let cause : m.0.cause ≡ Overrun =
    is_overrun m.0.cause m.2 (λ (e : m.0.cause ≡ HungUp).
    true≢false (sym (a.synced.hung (rw m.1 e)) ∙ stays ∙ unasked)) in
    let overrun = rw (a.first_close, m.1) at a.synced.overrun in
    record { change = m.0.change; overrun = overrun cause }
