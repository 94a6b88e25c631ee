use Rattle.std.proofs.Common.{◌∙◌, Some, Option, ap, sym, arith}
use Rattle.std.specs.Prelude.{slice_get, slice_set}
use Rattle.std.proofs.lemmas.List.{length-set, set-get_or}
use Rattle.std.proofs.lemmas.Option.{slice_get-get_or}
use Rattle.lq_desk_sub.proofs.VisitLemmas.{visited-free, visited-more}
use Rattle.lq_desk_sub.proofs.visit.visit_in.Goals as goal

pub loop-slot-preserved-in-Some-index_mut : goal.loop-slot-preserved-in-Some-index_mut
loop-slot-preserved-in-Some-index_mut g c =
    let l = c.loop-slot in
    let xs = l.slots.items in
    rw c.index.ensures.value record {
      wide = length-set xs c.in-Some.slot.index _ ∙ l.invariant.wide;
      all = visited-more (g.V.Visit.allows c.args.visitor.now) (g.V.Visit.did c.args.visitor.now)
          c.args.set.word c.args.slots.now.items c.args.state.now l.rest.word
          c.pop_lowest.new.self.word c.in-Some.slot.index xs l.state c.in-Some.ensures
          l.invariant.all c.in-Some-index_mut.item c.visit.new.item c.visit.new.state
          (ap (slice_get xs) (sym c.index.ensures.value)
          ∙ (slice_get-get_or xs c.index.result c.index_mut.result.now
          (omega (arith, l.invariant.wide, c.index.ensures.within))
          ∙ ap (λ (o : Option _). Some o) (sym c.index_mut.ensures.value ∙ c.in-Some-index_mut.is)))
          c.visit.ensures.did c.visit.ensures.apart c.visit.ensures.stands;
    }

pub loop-slot-preserved : goal.loop-slot-preserved
loop-slot-preserved g c =
    let l = c.loop-slot in
    let xs = l.slots.items in
    let there = ap (slice_get xs) (sym c.index.ensures.value)
    ∙ (slice_get-get_or xs c.index.result c.index_mut.result.now
    (omega (arith, l.invariant.wide, c.index.ensures.within))
    ∙ ap (λ (o : Option _). Some o) (sym c.index_mut.ensures.value)) in
    rw (ap (slice_set xs c.index.result) c.index_mut.ensures.value
    ∙ set-get_or xs c.index.result c.index_mut.result.now) record {
      wide = l.invariant.wide;
      all = visited-free (g.V.Visit.allows c.args.visitor.now) (g.V.Visit.did c.args.visitor.now)
          c.args.set.word c.args.slots.now.items c.args.state.now l.rest.word
          c.pop_lowest.new.self.word c.in-Some.slot.index xs l.state c.in-Some.ensures
          l.invariant.all (there ∙ ap (λ (o : Option _). Some o) c.in_default-index_mut.is);
    }
