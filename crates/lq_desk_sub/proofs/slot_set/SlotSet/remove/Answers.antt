use Rattle.lq_desk_sub.proofs.SlotSetLemmas.{has-clear, has-clear_other}
use Rattle.lq_desk_sub.proofs.slot_set.SlotSet.remove.Goals as goal

pub returns-clause-here : goal.returns-clause-here
returns-clause-here c = rw c.index.ensures.value
    (has-clear c.args.self.now.word c.args.slot.index c.args.slot.within)

pub returns-clause-others : goal.returns-clause-others
returns-clause-others c = rw c.index.ensures.value
    (has-clear_other c.args.self.now.word c.args.slot.index c.args.slot.within)
