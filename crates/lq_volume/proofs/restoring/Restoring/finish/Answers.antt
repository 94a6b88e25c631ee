use Rattle.std.proofs.Common.{◌≡◌, ◌∷◌, [], sym, subst, ◌∙◌, rules, Err, None, Some, inl, inr, true, false}
use Rattle.std.specs.Prelude.{length, not}
use Rattle.std.specs.List.{list_all}
use Rattle.lq_volume.specs.declared.restore_fault.RestoreFault.TheVariants.{Ring}
use Rattle.lq_volume.specs.Restore.{first_fault, all_reach, finish_faults, all_folder_faults}
use Rattle.lq_volume.specs.State.{State, climbs, dir_of, root}
use Rattle.lq_volume.proofs.Restores.{finish-fails, finish-holds, top-free, volume-from_tests}
use Rattle.lq_volume.proofs.FaultLemmas.{earlier-decides, if-ok}
use Rattle.lq_volume.proofs.restoring.Restoring.finish.Goals as goal

pub returns-in_err-check_folders-clause-refused : goal.returns-in_err-check_folders-clause-refused
returns-in_err-check_folders-clause-refused c =
    let s = c.args.self in
    let is : c.from_residual.result ≡ Err c.in_err-check_folders.field-0.0 = search rules in
    rw is (
      tt,
      elim c.in_err-check_folders.ensures.refused.1 [
        | inl out ↦ inl out
        | inr first ↦ inr (earlier-decides (all_folder_faults s s.records)
            ((not (all_reach s), Ring) ∷ []) c.in_err-check_folders.field-0.0 first)
      ],
    )

pub all_climb-requires : goal.all_climb-requires
all_climb-requires c = top-free _ c.self.invariant.part.numbered

pub returns-then-not-reached-clause-refused : goal.returns-then-not-reached-clause-refused
returns-then-not-reached-clause-refused c =
    let s : State = record {
      limit = c.self.inside.limit;
      number = c.self.inside.changes;
      next = c.self.inside.next;
      records = c.self.inside.entries;
    } in
    let folders = subst (λ (t : State). first_fault (all_folder_faults t t.records) ≡ None)
    (sym c.self.view_is) c.in_ok-check_folders.ensures.refused.0 in
    let all = if-ok _ _ (λ reached. reached ≡ list_all
    (λ e. climbs (length s.records) (dir_of s.records) root e.0) s.records)
    c.all_climb.result c.in_ok-reached.reached c.in_ok-reached.ensures.cases
    c.in_ok-reached.ensures.variant c.all_climb.ensures.all in
    let walks : all_reach s ≡ false = sym all ∙ c.if-not-reached.true in (
      tt,
      inr (subst (λ (t : State). first_fault (finish_faults t) ≡ Some Ring)
          c.self.view_is (finish-fails s folders walks)),
    )

pub from_parts-requires : goal.from_parts-requires
from_parts-requires c =
    let s : State = record {
      limit = c.self.inside.limit;
      number = c.self.inside.changes;
      next = c.self.inside.next;
      records = c.self.inside.entries;
    } in
    let folders = subst (λ (t : State). first_fault (all_folder_faults t t.records) ≡ None)
    (sym c.self.view_is) c.in_ok-check_folders.ensures.refused.0 in
    let all = if-ok _ _ (λ reached. reached ≡ list_all
    (λ e. climbs (length s.records) (dir_of s.records) root e.0) s.records)
    c.all_climb.result c.in_ok-reached.reached c.in_ok-reached.ensures.cases
    c.in_ok-reached.ensures.variant c.all_climb.ensures.all in
    let walks : all_reach s ≡ true = sym all ∙ c.if-not-reached.false in
    volume-from_tests s c.self.invariant.part (finish-holds s folders walks)

pub returns-clause-refused : goal.returns-clause-refused
returns-clause-refused c =
    let s : State = record {
      limit = c.self.inside.limit;
      number = c.self.inside.changes;
      next = c.self.inside.next;
      records = c.self.inside.entries;
    } in
    let folders = subst (λ (t : State). first_fault (all_folder_faults t t.records) ≡ None)
    (sym c.self.view_is) c.in_ok-check_folders.ensures.refused.0 in
    let all = if-ok _ _ (λ reached. reached ≡ list_all
    (λ e. climbs (length s.records) (dir_of s.records) root e.0) s.records)
    c.all_climb.result c.in_ok-reached.reached c.in_ok-reached.ensures.cases
    c.in_ok-reached.ensures.variant c.all_climb.ensures.all in
    let walks : all_reach s ≡ true = sym all ∙ c.if-not-reached.false in (
      subst (λ (t : State). first_fault (finish_faults t) ≡ None)
          c.self.view_is (finish-holds s folders walks),
      tt,
    )
