use Rattle.std.proofs.Common.{refl, arith, rules, ap, subst, length, ◌∙◌, ℕ}
use Rattle.std.proofs.lemmas.Grind.{common_steps}
use Rattle.lq_server_slots.proofs.SyncLemmas.{slots_added}
use Rattle.lq_server_slots.proofs.TableLemmas.{slots_alike}
use Rattle.lq_volume.specs.State.{State}
use Rattle.lq_server_slots.specs.declared.slots.ServerSlots.{ServerSlots}
use Rattle.lq_server_slots.specs.Slots.{IsConsistentWith, MarksCover}
use Rattle.std.specs.Prelude.{IfErr, ◌≢◌, Result}
use Rattle.lq_value.specs.declared.refusal.Refusal.{Refusal}
use Rattle.lq_value.specs.declared.refusal.Refusal.TheVariants.{NoMemory}
use Rattle.lq_volume.specs.declared.change.Applied.{Applied}
use Rattle.std.proofs.Common.{◌≡◌, Ok, Err}
use Rattle.lq_board.specs.Token.{SeatToken}
use Rattle.lq_server_slots.specs.declared.identity.Identity.{Identity}
use Rattle.lq_server_slots.proofs.apply_change.add.Goals as goal

-- what fails for memory fails for nothing else
tried_none : (r : Result Applied Refusal) (P : Type 0) (e : Refusal) → IfErr r (λ x. x ≡ NoMemory)
    → IfErr r (λ x. x ≢ NoMemory → P)
tried_none (Ok a) P e is = tt
tried_none (Err x) P e is = λ ne. absurd (ne is)

-- the number of the volume is that of the book's changes
marks : (old new : ServerSlots) (v : State) → IsConsistentWith old v
    → MarksCover v.number old.subscriptions new.subscriptions
    → MarksCover (length old.keeper.book.changes) old.subscriptions new.subscriptions
marks old new v h is =
    subst (λ (k : ℕ). MarksCover k old.subscriptions new.subscriptions)
    (ap (λ (x : State). x.number) h.state ∙ h.full.number) is

pub returns-clause-marks : goal.returns-clause-marks
returns-clause-marks c =
    marks c.args.slots.now c.prepare.new.slots c.args.volume.now c.requires.stands
    c.prepare.ensures.marks

pub returns-in_err-resolved-clause-marks : goal.returns-in_err-resolved-clause-marks
returns-in_err-resolved-clause-marks c =
    marks c.args.slots.now c.prepare.new.slots c.args.volume.now c.requires.stands
    c.prepare.ensures.marks

pub returns-in_err-applied-clause-marks : goal.returns-in_err-applied-clause-marks
returns-in_err-applied-clause-marks c =
    marks c.args.slots.now c.prepare.new.slots c.args.volume.now c.requires.stands
    c.prepare.ensures.marks

pub returns-clause-made : goal.returns-clause-made
returns-clause-made c = search rules

pub returns-in_err-resolved-clause-made : goal.returns-in_err-resolved-clause-made
returns-in_err-resolved-clause-made c = search rules

pub returns-in_err-applied-clause-made : goal.returns-in_err-applied-clause-made
returns-in_err-applied-clause-made c = search rules

pub returns-in_err-applied-clause-volume : goal.returns-in_err-applied-clause-volume
returns-in_err-applied-clause-volume c =
    first_of (search rules, grind (arith, common_steps))

pub returns-in_err-applied-clause-holding : goal.returns-in_err-applied-clause-holding
returns-in_err-applied-clause-holding c =
    let r = c.prepare.ensures in
    let slots = c.prepare.new.slots in
    slots_alike slots slots.keeper slots.keeper.book c.args.slots.now.keeper.book r.keeps.holding
    refl r.keeps.book

pub returns-clause-volume : goal.returns-clause-volume
returns-clause-volume c =
    rw (c.add_by.ensures.added.state, c.prepare.ensures.keeps.book, ← c.requires.stands.state)
    c.in_ok-applied.ensures.ok

pub returns-clause-holding : goal.returns-clause-holding
returns-clause-holding c =
    let r = c.prepare.ensures in
    let slots = c.prepare.new.slots in
    let within = c.slot.ensures.within in
    let value = c.slot.ensures.value in
    let same = slots_added _ _ _ _ _ _ c.add_by.ensures.added
    (omega (arith, within, value, r.keeps.holding.known))
    (λ pos. omega (arith, c.requires.known pos, r.rises c.args.seat.now.slot)) in
    slots_alike slots _ slots.keeper.book c.args.slots.now.keeper.book r.keeps.holding same
    r.keeps.book

pub returns-clause-noticed : goal.returns-clause-noticed
returns-clause-noticed c = search (rules, arith, slots_added)

pub returns-clause-heard : goal.returns-clause-heard
returns-clause-heard c = search (rules, arith, slots_added)

pub returns-clause-shown : goal.returns-clause-shown
returns-clause-shown c =
    let r = c.prepare.ensures in
    let within = c.slot.ensures.within in
    let value = c.slot.ensures.value in
    let same = slots_added _ _ _ _ _ _ c.add_by.ensures.added
    (omega (arith, within, value, r.keeps.holding.known))
    (λ pos. omega (arith, c.requires.known pos, r.rises c.args.seat.now.slot)) in
    rw same c.in_ok-resolved.ensures.shown

pub returns-in_err-resolved-clause-tried : goal.returns-in_err-resolved-clause-tried
returns-in_err-resolved-clause-tried c = search rules

pub returns-in_err-applied-clause-tried : goal.returns-in_err-applied-clause-tried
returns-in_err-applied-clause-tried c = tried_none _ _ NoMemory (search rules)

pub returns-clause-rises : goal.returns-clause-rises
returns-clause-rises c =
    let r = c.prepare.ensures in
    let within = c.slot.ensures.within in
    let value = c.slot.ensures.value in
    let same = slots_added _ _ _ _ _ _ c.add_by.ensures.added
    (omega (arith, within, value, r.keeps.holding.known))
    (λ pos. omega (arith, c.requires.known pos, r.rises c.args.seat.now.slot)) in
    rw same r.rises

pub returns-clause-recorded : goal.returns-clause-recorded
returns-clause-recorded c =
    ap (λ (x : SeatToken Identity). x.moments) c.add_by.ensures.added.seat
