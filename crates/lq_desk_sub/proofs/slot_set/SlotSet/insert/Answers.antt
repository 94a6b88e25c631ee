use Rattle.lq_desk_sub.proofs.SlotSetLemmas.{has-set, has-set_other}
use Rattle.lq_desk_sub.proofs.slot_set.SlotSet.insert.Goals as goal

pub returns-clause-here : goal.returns-clause-here
returns-clause-here c = rw c.index.ensures.value
    (has-set c.args.self.now.word c.args.slot.index c.args.slot.within)

pub returns-clause-others : goal.returns-clause-others
returns-clause-others c = rw c.index.ensures.value
    (has-set_other c.args.self.now.word c.args.slot.index c.args.slot.within)
