use Rattle.lq_desk_sub.proofs.SlotSetLemmas.{has-both}
use Rattle.lq_desk_sub.proofs.slot_set.SlotSet.intersection.Goals as goal

pub returns : goal.returns
returns c i = has-both c.args.self.word c.args.other.word i
