use Rattle.lq_desk_sub.proofs.SlotSetLemmas.{has-union}
use Rattle.lq_desk_sub.proofs.slot_set.SlotSet.union.Goals as goal

pub returns : goal.returns
returns c i = has-union c.args.self.word c.args.other.word i
