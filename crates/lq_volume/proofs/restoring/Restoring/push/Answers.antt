use Rattle.std.proofs.Common.{◌≡◌, [], sym, subst, None}
use Rattle.lq_volume.specs.Lookup.{listed}
use Rattle.lq_volume.specs.Restore.{first_fault, place_faults}
use Rattle.lq_volume.specs.State.{State}
use Rattle.lq_volume.proofs.FaultLemmas.{on-ok}
use Rattle.lq_volume.proofs.AttributeLemmas.{attrs-own, attrs-plain}
use Rattle.lq_volume.proofs.Restores.{all-below, place-free, size-fits, IsRestoring-pushed}
use Rattle.lq_volume.proofs.restoring.Restoring.push.Goals as goal

pub add-requires-clause-last : goal.add-requires-clause-last
add-requires-clause-last c =
    let place = subst (λ (s : State).
    first_fault (place_faults s c.args.node (listed c.args.listing)) ≡ None)
    (sym c.self.view_is) c.in_ok-check.ensures.ok in
    all-below c.records_are_kept.ensures _ _ c.args.node (listed c.args.listing) c.self.invariant
    place

pub add-requires-clause-free : goal.add-requires-clause-free
add-requires-clause-free c =
    let place = subst (λ (s : State).
    first_fault (place_faults s c.args.node (listed c.args.listing)) ≡ None)
    (sym c.self.view_is) c.in_ok-check.ensures.ok in
    rw c.in_ok-stored.ensures.value
    (place-free c.records_are_kept.ensures _ _ c.args.node (listed c.args.listing) c.self.invariant
    place)

pub invariant_of-self-2 : goal.invariant_of-self-2
invariant_of-self-2 c =
    let place = subst (λ (s : State).
    first_fault (place_faults s c.args.node (listed c.args.listing)) ≡ None)
    (sym c.self.view_is) c.in_ok-check.ensures.ok in
    let passes = c.in_ok-stored.ensures.refused.0 in
    let added = on-ok c.add.result c.in_ok-map_err.ensures.variant c.add.ensures.ok in
    rw (added, c.in_ok-stored.ensures.value)
    (IsRestoring-pushed c.records_are_kept.ensures _ _ c.args.node (listed c.args.listing)
    c.self.invariant place (record {
      own = attrs-own [] c.args.listing.attrs.items passes tt;
      plain = attrs-plain [] c.args.listing.attrs.items passes;
      small = size-fits c.records_are_kept.ensures _ _ c.args.node (listed c.args.listing)
          c.self.invariant place;
    }))
