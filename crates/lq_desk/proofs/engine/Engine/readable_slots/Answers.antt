use Rattle.lq_desk.proofs.ParcelLemmas.{ready-tells}
use Rattle.lq_desk.proofs.engine.Engine.readable_slots.Goals as goal

pub returns : goal.returns
returns c slot some = ready-tells c.args.self.now slot c.readable_slots.result some
    (rw (← c.self.view_is) c.readable_slots.ensures)
