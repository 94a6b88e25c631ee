use Rattle.std.proofs.Common.{◌+◌, refl, sym, ap, ◌∙◌, subst, slice_set, Some}
use Rattle.lq_board.specs.Token.{KeeperToken}
use Rattle.lq_server_slots.specs.declared.identity.Identity.{Identity}
use Rattle.lq_server_slots.specs.declared.subscription.Subscription.{Subscription}
use Rattle.lq_server_slots.proofs.OpenLemmas.{settled, begun_seen}
use Rattle.lq_server_slots.specs.Slots.{AreConsistent}
use Rattle.lq_server_slots.proofs.TableLemmas.{in_else}
use Rattle.lq_server_slots.proofs.open.settle.Goals as goal

pub returns-clause-holding : goal.returns-clause-holding
returns-clause-holding c =
    let b = c.requires.begun in
    let was = c.args.slots.now in
    let index = c.args.index in
    let number = c.number-number.ensures in
    let s : Subscription = record {
      sub = c.args.slot.sub;
      input = c.args.slot.input;
      places = c.args.slot.places;
      asks = c.asks.result;
      last_report = c.args.slot.last_report;
      first_close = c.args.slot.first_close;
    } in
    let keeper = c.asks.ensures.keeper in
    let seated = c.sit-seat.ensures.out.keeper in
    let book = sym (ap (λ (k : KeeperToken Identity). k.book) seated
    ∙ ap (λ (k : KeeperToken Identity). k.book) keeper) in
    rw c.insert.ensures
    (subst (AreConsistent (record {
      keeper = c.sit-seat.new.keeper;
      subscriptions = slice_set was.subscriptions index.index (Some s);
      watch = c.set.new.self;
      openings = was.openings + 1;
    })) book
    (settled was c.asks.new.keeper c.sit-seat.new.keeper index.index c.asks.result s
    was.keeper.book c.requires.holding index.within c.requires.free
    (rw number at (ap (λ (k : KeeperToken Identity). k.slots) keeper))
    (rw number at c.asks.ensures.idle) (ap (λ (k : KeeperToken Identity). k.slots) seated) refl
    b.stands (begun_seen c.args.slot c.args.reading was.keeper.book _ _ _ _ b) b.messages b.live
    c.set.new.self c.set.ensures.here c.set.ensures.others))

pub returns-clause-others : goal.returns-clause-others
returns-clause-others c i ne =
    rw c.insert.ensures (in_else c.args.slots.now.subscriptions c.args.index.index i _ ne)
