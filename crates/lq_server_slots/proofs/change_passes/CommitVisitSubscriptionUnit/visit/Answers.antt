use Rattle.lq_board.specs.Slot.{slot_at}
use Rattle.std.proofs.Common.{◌+◌, length, subst, sym, ◌∙◌}
use Rattle.lq_desk_world.specs.World.{Subscribed}
use Rattle.lq_server_slots.specs.Turn.{PutsAndTakes, known_subscription}
use Rattle.lq_server_slots.proofs.TurnLemmas.{commit_known}
use Rattle.lq_server_slots.specs.Slots.{before_of}
use Rattle.lq_server_slots.proofs.CommitLemmas.{committed, committed_filled}
use Rattle.lq_server_slots.proofs.change_passes.CommitVisitSubscriptionUnit.visit.Goals as goal

pub fill-requires : goal.fill-requires
fill-requires g c =
    let m = c.commit_if.ensures in
    let book = c.args.self.now.keeper.now.book in
    (committed _ _ c.args.item.now c.commit_if.new.slot _ book c.requires
    (rw c.contains.ensures at (m.stands (before_of book))) m.others m.first_close m.hung).stands

pub returns-clause-did : goal.returns-clause-did
returns-clause-did g c =
    let m = c.commit_if.ensures in
    let f = c.fill.ensures in
    let s = c.args.item.now in
    let book = c.args.self.now.keeper.now.book in
    let number = length (before_of book).changes in
    let covers = m.mark number
    (λ asked live. (c.requires.prepared.some (sym c.contains.ensures ∙ asked) live).1
    ∙ c.requires.stood.taken.stands.full.number) in
    let r = c.requires in
    let stood = r.stood.taken.stands in
    let q = slot_at c.args.self.now.keeper.now.slots (c.args.slot.index + 1) in
    record {
      serves = committed_filled _ _ number s c.commit_if.new.slot c.fill.new.slot _ book c.requires
          (committed _ _ s c.commit_if.new.slot _ book c.requires
          (rw c.contains.ensures at (m.stands (before_of book))) m.others m.first_close m.hung)
          m.others m.still covers f.stands f.alike f.taken f.stuck;
      puts = subst (λ (u : Subscribed). PutsAndTakes book u (known_subscription c.fill.new.slot q))
          (commit_known s c.commit_if.new.slot q (before_of book) c.args.self.now.change.now _ stood
          r.grown.lawful (rw c.contains.ensures r.prepared) m.made m.left m.others)
          (f.puts q);
    }
