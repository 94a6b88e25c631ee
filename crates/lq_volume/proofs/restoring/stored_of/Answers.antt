use Rattle.std.proofs.Common.{◌≡◌, arith, None, false}
use Rattle.std.specs.Vec.Iter.{into_iter_items}
use Rattle.std.proofs.lemmas.Bool.Decides.{nat_tests}
use Rattle.lq_volume_entries.specs.Attributes.{Attributes, is_reserved, value_of}
use Rattle.lq_volume.specs.Lookup.{listed}
use Rattle.lq_volume.proofs.FaultLemmas.{on-ok}
use Rattle.lq_volume.proofs.AttributeLemmas.{all-set, rows-set, shown-set}
use Rattle.lq_volume.proofs.restoring.stored_of.Goals as goal

pub loop-attr-preserved : goal.loop-attr-preserved
loop-attr-preserved c =
    let full = listed c.args.listing in
    let r = c.loop-attr.stored in
    let new = c.set_attr.new.self in
    let left : Attributes = into_iter_items c.next.new.self in
    let step = c.in-Some.ensures.steps.0 in
    let all = rw step at c.loop-attr.invariant.all in
    let rows = rw step at c.loop-attr.invariant.left in
    let none : value_of r.attrs c.in-Some.attr ≡ None = grind (arith, nat_tests) in
    let set = on-ok c.set_attr.result c.in_ok-map_err.ensures.variant c.set_attr.ensures.ok in
    let plain : is_reserved c.in-Some.attr ≡ false = grind (arith, nat_tests) in
    record {
      shown = shown-set full r new c.in-Some.attr c.in-Some.value left
          c.loop-attr.invariant.shown all rows set none;
      all = all-set full r new c.in-Some.attr c.in-Some.value left
          c.loop-attr.invariant.shown all rows set none;
      left = rows-set full r new c.in-Some.attr c.in-Some.value left
          c.loop-attr.invariant.shown all rows set none plain;
    }
