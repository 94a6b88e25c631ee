use Rattle.std.proofs.Common.{refl, ap, ◌∙◌}
use Rattle.lq_board.specs.Token.{KeeperToken}
use Rattle.lq_desk_sub.specs.Held.{Prepared}
use Rattle.lq_server_slots.specs.declared.identity.Identity.{Identity}
use Rattle.lq_server_slots.proofs.OpenLemmas.{begun_new}
use Rattle.lq_server_slots.proofs.open.begin.Goals as goal

pub returns-clause-begun : goal.returns-clause-begun
returns-clause-begun c =
    let m = c.in_ok-input.ensures in
    let book = c.args.keeper.now.book in
    let number = (rw c.requires.volume at c.changes-at.ensures.number) ∙ c.requires.full.number in
    let entries = rw c.requires.volume at c.in_ok-entries.ensures.entries in
    let reading = c.new-reading.ensures in
    begun_new c.new_subscriptions_stand.ensures _ c.new-reading.result book
    c.args.predicate.now c.args.options.now.flags c.args.options.now.port
    c.args.options.now.backlog c.changes-at.result
    (record {
      query = c.of.result;
      flags = c.args.options.now.flags;
      opened = c.changes-at.result;
      book = c.of-2.result;
    })
    (ap (λ (p : Prepared). p.held) c.in_ok-sub.ensures.value) number refl c.of-3.ensures refl
    m.places m.floor
    c.of.ensures refl refl (ap (λ (k : KeeperToken Identity). k.book) c.of-2.ensures) m.empty.0
    m.empty.1 c.requires.full
    (rw (reading, m.ends)) (rw reading) (rw (reading, c.new.ensures, entries))

pub new-reading-requires-clause-opening : goal.new-reading-requires-clause-opening
new-reading-requires-clause-opening c =
    let m = c.in_ok-input.ensures in
    let number = (rw c.requires.volume at c.changes-at.ensures.number) ∙ c.requires.full.number in
    rw (m.ends, m.floor, c.of-2.ensures) number

pub new-reading-requires-clause-full : goal.new-reading-requires-clause-full
new-reading-requires-clause-full c =
    let m = c.in_ok-input.ensures in
    rw (m.ends, m.floor, c.of-2.ensures) c.requires.full

pub returns-clause-keeper : goal.returns-clause-keeper
returns-clause-keeper c =
    let m = c.in_ok-input.ensures in
    rw (c.new-reading.ensures, m.ends, m.floor) c.of-2.ensures
