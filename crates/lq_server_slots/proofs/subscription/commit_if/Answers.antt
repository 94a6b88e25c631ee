use Rattle.std.proofs.Common.{refl}
use Rattle.lq_server_slots.proofs.EndLemmas.{untold_stands}
use Rattle.lq_server_slots.proofs.MarkLemmas.{committed_covers, mark_covers-same}
use Rattle.lq_server_slots.proofs.subscription.commit_if.Goals as goal

pub returns-then-asked-clause-stands : goal.returns-then-asked-clause-stands
returns-then-asked-clause-stands c = λ book stands prepared.
    c.commit.ensures.stands book stands (prepared.some c.if-asked.true)

pub returns-then-asked-clause-mark : goal.returns-then-asked-clause-mark
returns-then-asked-clause-mark c = λ n before.
    committed_covers c.args.slot.now.sub c.commit.new.slot.sub.held n c.commit.ensures.held
    (before c.if-asked.true)

pub returns-else-asked-clause-stands : goal.returns-else-asked-clause-stands
returns-else-asked-clause-stands c = λ book stands prepared lawful full.
    let s = c.args.slot.now in
    untold_stands s.sub s.input s.places s.last_report.value s.first_close book c.args.change.now
    c.steps_are_few.ensures c.requires.filled stands (prepared.none c.if-asked.false) lawful full

pub returns-else-asked-clause-mark : goal.returns-else-asked-clause-mark
returns-else-asked-clause-mark c = λ n before.
    mark_covers-same n c.args.slot.now.sub.held.mark c.args.slot.now.sub.held.mark refl
