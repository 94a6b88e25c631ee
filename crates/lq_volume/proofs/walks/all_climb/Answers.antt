use Rattle.std.proofs.Common.{◌≡◌, ℕ, ◌∙◌, sym, ap, arith, rules, map, length, false, true}
use Rattle.std.specs.List.{list_all}
use Rattle.std.specs.Vec.Iter.{into_iter_items}
use Rattle.std.proofs.lemmas.Bool.Decides.{nat_tests}
use Rattle.lq_volume_entries.specs.Order.{shown_pair}
use Rattle.lq_volume.specs.State.{Record, root, dir_of, climbs}
use Rattle.lq_volume.proofs.EntryLists.{found-own}
use Rattle.lq_volume.proofs.WalkLemmas.{climbs-record}
use Rattle.lq_volume.proofs.walks.all_climb.Goals as goal

pub loop-record-init : goal.loop-record-init
loop-record-init c =
    let all : map shown_pair (into_iter_items c.into_iter-record-iterator.result)
    ≡ c.args.entries.now = search rules in
    record {
      settled = λ n h. let no = c.new-settled.ensures n in cc;
      own = rw all (found-own c.args.entries.now c.in_ok-items.ensures.rise);
      left = ap (list_all
          (λ e. climbs (length c.args.entries.now) (dir_of c.args.entries.now) root e.0)) all;
    }

pub returns-then-not-branch-clause-all : goal.returns-then-not-branch-clause-all
returns-then-not-branch-clause-all c =
    let e : ℕ × Record = (c.in-Some.field-0-0, c.in-Some.record.now) in
    let own = rw c.in-Some.ensures.steps.0 at c.loop-record.invariant.own in
    let left = rw c.in-Some.ensures.steps.0 at c.loop-record.invariant.left in
    let up = climbs-record c.records_are_kept.ensures c.args.entries.now e c.requires own.0 in
    let walk = c.in_ok-settle.ensures.reaches in
    let dir = c.dir.ensures in
    let off : climbs (length c.args.entries.now) (dir_of c.args.entries.now) root e.0 ≡ false =
    up ∙ (rw dir at (sym walk) ∙ grind (arith, nat_tests)) in
    grind (arith, nat_tests)

pub loop-record-preserved : goal.loop-record-preserved
loop-record-preserved c =
    let e : ℕ × Record = (c.in-Some.field-0-0, c.in-Some.record.now) in
    let own = rw c.in-Some.ensures.steps.0 at c.loop-record.invariant.own in
    let left = rw c.in-Some.ensures.steps.0 at c.loop-record.invariant.left in
    let up = climbs-record c.records_are_kept.ensures c.args.entries.now e c.requires own.0 in
    let walk = c.in_ok-settle.ensures.reaches in
    let dir = c.dir.ensures in
    let on : climbs (length c.args.entries.now) (dir_of c.args.entries.now) root e.0 ≡ true =
    up ∙ (rw dir at (sym walk) ∙ grind (arith, nat_tests)) in
    record {
      settled = c.in_ok-settle.ensures.settled;
      own = own.1;
      left = grind (arith, nat_tests);
    }
