use Rattle.std.proofs.Common.{◌≡◌, ◌∙◌, [], ◌∷◌, ◌++◌, refl, sym, ap, subst, append_assoc, append-nil}
use Rattle.std.specs.List.Sorted.{IsStrictlySortedBy}
use Rattle.std.specs.Map.{keys_of}
use Rattle.std.specs.String.{string_cmp}
use Rattle.serde_json.specs.Data.{object, put}
use Rattle.serde_json.specs.View.{members_view, view}
use Rattle.serde_json.proofs.Views.{Entry, put_last}
use Rattle.lq_script_request.specs.declared.fields.Fields.{Fields}
use Rattle.lq_script_request.specs.Fields.{Show, updated}
use Rattle.lq_script_request.proofs.FieldsLemmas.{AreLastMembers-from, Show-absent, Show-other, Show-put, object-of, whole_data-from}
use Rattle.lq_script_request.proofs.fields.Fields.of.Goals as goal

pub returns-in_default-clause-found : goal.returns-in_default-clause-found
returns-in_default-clause-found c =
    let fields : Fields = record c.new-fields.result { text = c.args.text } in
    AreLastMembers-from fields c.args.text.now (view c.args.value.now) refl c.requires
    (Show-other fields (view c.args.value.now) c.new-fields.ensures c.in_default.ensures)

pub loop-key-init : goal.loop-key-init
loop-key-init c =
    let fields : Fields = record c.new-fields.result { text = c.args.text } in
    let same : c.into_iter-key-iterator.result ≡ c.in-Some.members.now.entries =
    c.into_iter-key-iterator.ensures.into_iter_gives ∙ c.iter-key-items.ensures.rest in (
      [],
      subst (λ es. IsStrictlySortedBy string_cmp (keys_of es)) (sym same)
          c.iter-key-items.ensures.ordered,
      ap (λ es. object (members_view es)) same
          ∙ object-of (view c.args.value.now) (members_view c.in-Some.members.now.entries)
          c.in-Some.ensures,
      Show-absent fields c.new-fields.ensures,
      refl,
    )

pub loop-key-preserved : goal.loop-key-preserved
loop-key-preserved c =
    let l = c.loop-key in
    let done = l.invariant.0 in
    let e : Entry = (c.in-Some-2.key.now, c.in-Some-2.member.now) in
    let left = c.next.new.self in
    let all : done ++ l.key-iterator ≡ done ++ e ∷ left =
    ap (λ es. done ++ es) c.in-Some-2.ensures.steps in
    let ordered = subst (λ es. IsStrictlySortedBy string_cmp (keys_of es)) all l.invariant.1 in
    let next : done ++ e ∷ left ≡ (done ++ e ∷ []) ++ left =
    sym (append_assoc done (e ∷ []) left) in
    let shows = Show-put c.as_str.result.now c.field_of.result l.fields (view e.1)
    (members_view done) c.field_of.ensures l.invariant.3 in
    let same : put c.as_str.result.now (view e.1) (members_view done)
    ≡ members_view (done ++ e ∷ []) =
    ap (λ k. put k (view e.1) (members_view done)) c.as_str.ensures.value
    ∙ put_last done e left ordered in (
      done ++ e ∷ [],
      subst (λ es. IsStrictlySortedBy string_cmp (keys_of es)) next ordered,
      ap (λ es. object (members_view es)) (sym next ∙ sym all) ∙ l.invariant.2,
      subst (λ fields. Show fields (object (members_view (done ++ e ∷ [])))) (sym c.put.ensures)
          (subst (λ ms. Show (updated c.as_str.result.now c.field_of.result l.fields) (object ms))
          same shows),
      ap (λ fields. fields.text.now) c.put.ensures ∙ l.invariant.4,
    )

pub returns-clause-value : goal.returns-clause-value
returns-clause-value c =
    whole_data-from c.loop-key.fields c.args.text.now (view c.args.value.now) c.loop-key.invariant.4
    c.requires

pub returns-clause-found : goal.returns-clause-found
returns-clause-found c =
    let l = c.loop-key in
    let done = l.invariant.0 in
    let all : object (members_view done) ≡ view c.args.value.now =
    ap (λ es. object (members_view es))
    (sym (ap (λ es. done ++ es) c.in-None.ensures.steps.0 ∙ append-nil done)) ∙ l.invariant.2 in
    AreLastMembers-from l.fields c.args.text.now (view c.args.value.now) l.invariant.4 c.requires
    (subst (Show l.fields) all l.invariant.3)
