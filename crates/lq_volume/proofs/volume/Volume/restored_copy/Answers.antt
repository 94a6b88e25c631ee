use Rattle.std.proofs.Common.{◌≡◌, sym, refl, subst, add-one, rules, Err, Some, inl, inr}
use Rattle.std.specs.Prelude.{slice_get}
use Rattle.lq_volume.specs.Lookup.{listed}
use Rattle.lq_volume.specs.State.{State, Record, IsVolume}
use Rattle.lq_volume.proofs.EntryLists.{take-next}
use Rattle.lq_volume.proofs.FaultLemmas.{if-ok}
use Rattle.lq_volume.proofs.Restores.{push-restores}
use Rattle.lq_volume.proofs.volume.Volume.restored_copy.Goals as goal

pub returns-in_err-push-in-Some-clause-refused : goal.returns-in_err-push-in-Some-clause-refused
returns-in_err-push-in-Some-clause-refused c =
    let s = c.args.self.now in
    let r : Record = listed c.in_ok-listing-in-Some.listing in
    let all = if-ok _ _ (λ saved. saved ≡ s.records) c.saved.result c.in_ok-saved.saved
    c.in_ok-saved.ensures.cases c.in_ok-saved.ensures.variant c.saved.ensures.records in
    let told = if-ok _ _ (λ listing. ◌≡◌ {A = Record} (listed listing) c.in-Some.entry)
    c.listing.result c.in_ok-listing-in-Some.listing c.in_ok-listing-in-Some.ensures.cases
    c.in_ok-listing-in-Some.ensures.variant c.listing.ensures.value in
    let v = subst (λ (t : State). IsVolume t) c.self.view_is c.self.invariant in
    let at : slice_get s.records c.loop-index.index ≡ Some (c.in-Some.node, r) =
    rw (told, ← all) (sym c.in-Some.ensures) in
    let none = push-restores c.volumes_are_restored.ensures s c.loop-index.restoring
    c.loop-index.index c.in-Some.node r v at c.loop-index.invariant in
    let is : c.from_residual-in_err-push-in-Some.result ≡ Err c.in_err-push-in-Some.field-0.0 =
    search rules in
    rw is (
      tt,
      elim c.in_err-push-in-Some.ensures.refused.1 [
        | inl out ↦ inl out
        | inr first ↦ absurd (let no : ⊥ = cc in no)
      ],
    )

pub loop-index-preserved : goal.loop-index-preserved
loop-index-preserved c =
    let s = c.args.self.now in
    let r : Record = listed c.in_ok-listing-in-Some.listing in
    let all = if-ok _ _ (λ saved. saved ≡ s.records) c.saved.result c.in_ok-saved.saved
    c.in_ok-saved.ensures.cases c.in_ok-saved.ensures.variant c.saved.ensures.records in
    let told = if-ok _ _ (λ listing. ◌≡◌ {A = Record} (listed listing) c.in-Some.entry)
    c.listing.result c.in_ok-listing-in-Some.listing c.in_ok-listing-in-Some.ensures.cases
    c.in_ok-listing-in-Some.ensures.variant c.listing.ensures.value in
    let at : slice_get s.records c.loop-index.index ≡ Some (c.in-Some.node, r) =
    rw (told, ← all) (sym c.in-Some.ensures) in
    let next = take-next s.records c.loop-index.index (c.in-Some.node, r) at in
    rw (c.in_ok-push-in-Some.ensures.ok, c.loop-index.invariant, add-one, next) refl
