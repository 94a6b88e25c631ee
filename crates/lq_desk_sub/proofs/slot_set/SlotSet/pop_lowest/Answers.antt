use Rattle.std.proofs.Common.{ap, ◌∙◌, arith}
use Rattle.lq_desk_sub.specs.SlotSet.{has}
use Rattle.lq_desk_sub.proofs.SlotSetLemmas.{has-none, has-pop_lowest}
use Rattle.lq_desk_sub.proofs.slot_set.SlotSet.pop_lowest.Goals as goal

pub returns-then-self-eq0 : goal.returns-then-self-eq0
returns-then-self-eq0 c i = ap (λ w. has w i) c.if-self-eq0.true ∙ has-none i

pub returns : goal.returns
returns c = rw c.at.ensures
    (has-pop_lowest c.args.self.now.word (omega arith) (omega arith))
