use Rattle.lq_update.proofs.TouchedLemmas.{came-alone, left-told}
use Rattle.lq_update.proofs.message_list.join.Goals as goal

pub returns-in_default-None-clause-removed : goal.returns-in_default-None-clause-removed
returns-in_default-None-clause-removed c = cc ((left-told c.args.moved c.args.left).0)

pub returns-in_default-None-clause-last : goal.returns-in_default-None-clause-last
returns-in_default-None-clause-last c = cc ((left-told c.args.moved c.args.left).1)

pub returns-in-None-Some-clause-removed : goal.returns-in-None-Some-clause-removed
returns-in-None-Some-clause-removed c = cc ((came-alone c.args.moved c.in-None-Some.to).0)

pub returns-in-None-Some-clause-last : goal.returns-in-None-Some-clause-last
returns-in-None-Some-clause-last c = cc ((came-alone c.args.moved c.in-None-Some.to).1)

pub returns-then-moved-clause-removed : goal.returns-then-moved-clause-removed
returns-then-moved-clause-removed c = cc

pub returns-then-moved-clause-last : goal.returns-then-moved-clause-last
returns-then-moved-clause-last c = cc

pub returns-else-moved-clause-removed : goal.returns-else-moved-clause-removed
returns-else-moved-clause-removed c = cc

pub returns-else-moved-clause-last : goal.returns-else-moved-clause-last
returns-else-moved-clause-last c = cc
