use Rattle.lq_desk_sub.proofs.SlotSetLemmas.{has-none}
use Rattle.lq_desk_sub.proofs.slot_set.SlotSet.new.Goals as goal

pub returns : goal.returns
returns c = has-none
