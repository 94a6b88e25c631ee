use Rattle.std.proofs.Common.{refl, sym, ◌∷◌, []}
use Rattle.lq_volume.specs.Book.{grown}
use Rattle.lq_server_slots.proofs.EndLemmas.{some_there, none_there, longer_marked, committed_stands}
use Rattle.lq_server_slots.proofs.subscription.commit.Goals as goal

pub returns-then-not-is_live-clause-stands : goal.returns-then-not-is_live-clause-stands
returns-then-not-is_live-clause-stands c = λ book stands prepared lawful full.
    let s = c.args.slot.now in
    let there = some_there s.sub.held.mark (sym c.if-not-is_live.ensures) in
    longer_marked s.sub.held s.input s.places s.last_report.value s.first_close book stands
    (grown book (c.args.change.now ∷ [])) there.0 (c.args.change.now ∷ [], refl) full there.1

pub returns-clause-stands : goal.returns-clause-stands
returns-clause-stands c = λ book stands prepared lawful full.
    let s = c.args.slot.now in
    committed_stands s.sub c.commit.new.self s.input s.places s.last_report.value s.first_close book
    c.args.change.now
    (none_there s.sub.held.mark (sym c.if-not-is_live.ensures)) c.commit.ensures
    c.steps_are_few.ensures c.requires.filled stands prepared lawful full

pub returns-then-not-is_live-clause-held : goal.returns-then-not-is_live-clause-held
returns-then-not-is_live-clause-held c = rw (← c.if-not-is_live.ensures)

pub returns-clause-held : goal.returns-clause-held
returns-clause-held c = rw (c.commit.ensures, ← c.if-not-is_live.ensures)
