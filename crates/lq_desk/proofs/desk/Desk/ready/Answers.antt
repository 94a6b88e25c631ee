use Rattle.std.proofs.Common.{◌∙◌, ap}
use Rattle.lq_desk_world.specs.declared.event.Event.TheVariants.{Take}
use Rattle.lq_desk.specs.Ready.{is_parcel}
use Rattle.lq_desk.proofs.TurnLemmas.{turn-answer}
use Rattle.lq_desk.proofs.desk.Desk.ready.Goals as goal

pub returns : goal.returns
returns c = λ slot some. c.readable_slots.ensures slot some
    ∙ ap is_parcel (turn-answer c.kept_shows_worlds.ensures _ _ (Take slot)
    (rw c.self.view_is at c.self.invariant))
