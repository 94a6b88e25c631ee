use Rattle.std.proofs.Common.{arith}
use Rattle.lq_desk_sub.proofs.SlotSetLemmas.{has-all, has-outside}
use Rattle.lq_desk_sub.proofs.slot_set.SlotSet.lowest_outside.Goals as goal

pub returns-then-self-eq18446744073709551615-clause-full :
    goal.returns-then-self-eq18446744073709551615-clause-full
returns-then-self-eq18446744073709551615-clause-full c i lt =
    rw c.if-self-eq18446744073709551615.true (has-all i lt)

pub returns-clause-outside : goal.returns-clause-outside
returns-clause-outside c = rw (c.at.ensures, c.trailing_ones.ensures)
    (has-outside c.args.self.word (omega arith)).0

pub returns-clause-lowest : goal.returns-clause-lowest
returns-clause-lowest c = rw (c.at.ensures, c.trailing_ones.ensures)
    (has-outside c.args.self.word (omega arith)).1
