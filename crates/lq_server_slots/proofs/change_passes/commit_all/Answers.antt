use Rattle.lq_server_slots.proofs.change_passes.commit_all.Given.{Over}
use Rattle.lq_server_slots.specs.Slots.{AreConsistent, HasPreparedAt, IsServed, MarksCover, SlotIsWatched, SlotsAre, before_of}
use Rattle.std.proofs.Common.{Option, Some, ap, arith, length, subst}
use Rattle.lq_server_slots.specs.declared.subscription.Subscription.{Subscription}
use Rattle.lq_server_slots.proofs.TurnLemmas.{put_all, visits_less}
use Rattle.lq_server_slots.proofs.TakenLemmas.{all_served, noticed_at}
use Rattle.std.specs.Option.{option_flatten}
use Rattle.std.proofs.lemmas.Option.{slice_get_within}
use Rattle.lq_volume.specs.Book.{state_of}
use Rattle.lq_server_slots.proofs.change_passes.commit_all.Goals as goal

pub visit-requires : goal.visit-requires
visit-requires g c = record {
  allowed = λ i x set found.
      let slots = c.args.slots.now in
      let r = c.requires in
      let low = slice_get_within slots.subscriptions i (Some x) found in
      record {
        grown = r.grown;
        stood = noticed_at slots (before_of slots.keeper.book) i x r.holding r.noticed found;
        prepared = record {
          some = λ asked. subst (λ (o : Option Subscription).
              HasPreparedAt o (state_of (before_of slots.keeper.book)) c.args.change.now)
              (ap option_flatten found) (r.prepared i (omega (arith, low, r.holding.wide))
              (rw c.slots_for.ensures at asked));
          none = λ out. subst (λ (o : Option Subscription). SlotIsWatched slots.watch i o)
              (ap option_flatten found) (r.holding.watched i (omega (arith, low, r.holding.wide)))
              c.args.change.now (rw c.slots_for.ensures at out);
        };
      };
}

-- each slot was served
served : (g : Over) (c : goal.After-visit g)
    → AreConsistent (record c.args.slots.now { subscriptions = c.visit.new.self })
    c.args.slots.now.keeper.book
    × SlotsAre IsServed c.visit.new.self c.args.slots.now.keeper.slots
    × MarksCover (length (before_of c.args.slots.now.keeper.book).changes)
    c.args.slots.now.subscriptions c.visit.new.self
served g c =
    let slots = c.args.slots.now in
    all_served _ slots c.taken-taken.result.word _ c.visit.new.self (before_of slots.keeper.book)
    _ _ c.requires.holding c.taken-taken.ensures.taken c.visit.ensures.wide
    (visits_less (λ u i x y d. d.serves) c.visit.ensures.visits)

pub returns-clause-holding : goal.returns-clause-holding
returns-clause-holding g c = (served g c).0

pub returns-clause-served : goal.returns-clause-served
returns-clause-served g c = (served g c).1

pub returns-clause-marks : goal.returns-clause-marks
returns-clause-marks g c = (served g c).2

pub returns-clause-puts : goal.returns-clause-puts
returns-clause-puts g c =
    let slots = c.args.slots.now in
    put_all slots.keeper.book _ _ slots.subscriptions c.visit.new.self slots.keeper.slots _ _ _ _
    c.visit.ensures.visits c.taken-taken.ensures.taken
