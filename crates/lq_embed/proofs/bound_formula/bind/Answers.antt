use Rattle.std.proofs.Common.{◌∙◌, ◌<◌, ◌≤◌, ℕ, List, ap, length, subst, sym}
use Rattle.lq_embed.specs.BoundFormula.{first_missing, first_unused, replaced_from}
use Rattle.lq_embed.specs.ParameterList.{HasParameters, IsNotCut}
use Rattle.lq_embed.proofs.BoundLemmas.{binds_long, binds_missing, binds_not_cut, binds_not_utf8, binds_text, binds_unused}
use Rattle.lq_embed.proofs.bound_formula.bind.Goals as goal

pub returns-in_default-clause-err : goal.returns-in_default-clause-err
returns-in_default-clause-err c = binds_not_utf8 c.args.values.now c.args.formula.now
    (c.one_token_list.ensures 0 c.args.formula.now) c.in_default.ensures.cases.0

pub returns-then-text-gt-MAX_FORMULA-clause-err : goal.returns-then-text-gt-MAX_FORMULA-clause-err
returns-then-text-gt-MAX_FORMULA-clause-err c =
    let text = c.in-Ok.ensures.cases in
    binds_long c.args.values.now c.args.formula.now (c.one_token_list.ensures 0 c.args.formula.now)
    text.1 (subst (λ (l : List ℕ). 4096 < length l) text.0 c.if-text-gt-MAX_FORMULA.true)

pub returns-in-Err-clause-err : goal.returns-in-Err-clause-err
returns-in-Err-clause-err c =
    let text = c.in-Ok.ensures.cases in
    binds_not_cut c.args.values.now c.args.formula.now c.in-Err.refusal
    (c.one_token_list.ensures 0 c.args.formula.now) text.1
    (subst (λ (l : List ℕ). length l ≤ 4096) text.0 c.if-text-gt-MAX_FORMULA.false)
    (subst (λ (l : List ℕ). IsNotCut l c.in-Err.refusal) text.0 c.in-Err.ensures.err)

pub returns-in-Some-clause-err : goal.returns-in-Some-clause-err
returns-in-Some-clause-err c =
    let text = c.in-Ok.ensures.cases in
    let parameters = c.in-Ok-read_parameters.parameters.items in
    binds_missing c.args.values.now c.args.formula.now parameters c.in-Some.number
    (subst (λ (l : List ℕ). HasParameters l parameters) text.0 c.in-Ok-read_parameters.ensures.ok)
    text.1 (subst (λ (l : List ℕ). length l ≤ 4096) text.0 c.if-text-gt-MAX_FORMULA.false)
    (sym (c.in-Some.ensures
    ∙ ap (first_missing (length c.args.values.now)) c.deref.ensures.value))

pub returns-in-Some-first_unused-clause-err : goal.returns-in-Some-first_unused-clause-err
returns-in-Some-first_unused-clause-err c =
    let text = c.in-Ok.ensures.cases in
    let parameters = c.in-Ok-read_parameters.parameters.items in
    binds_unused c.args.values.now c.args.formula.now parameters c.in-Some-first_unused.number
    (subst (λ (l : List ℕ). HasParameters l parameters) text.0 c.in-Ok-read_parameters.ensures.ok)
    text.1 (subst (λ (l : List ℕ). length l ≤ 4096) text.0 c.if-text-gt-MAX_FORMULA.false)
    (sym (c.in_default-first_missing.ensures
    ∙ ap (first_missing (length c.args.values.now)) c.deref.ensures.value))
    (sym (c.in-Some-first_unused.ensures
    ∙ ap (λ ps. first_unused ps 1 c.args.values.now) c.deref-2.ensures.value))

pub returns-in-Ok-replace-clause-ok : goal.returns-in-Ok-replace-clause-ok
returns-in-Ok-replace-clause-ok c =
    let text = c.in-Ok.ensures.cases in
    let parameters = c.in-Ok-read_parameters.parameters.items in
    binds_text c.args.values.now c.args.formula.now parameters c.in-Ok-replace.text.items
    (subst (λ (l : List ℕ). HasParameters l parameters) text.0 c.in-Ok-read_parameters.ensures.ok)
    text.1 (subst (λ (l : List ℕ). length l ≤ 4096) text.0 c.if-text-gt-MAX_FORMULA.false)
    (sym (c.in_default-first_missing.ensures
    ∙ ap (first_missing (length c.args.values.now)) c.deref.ensures.value))
    (sym (c.in_default-first_unused.ensures
    ∙ ap (λ ps. first_unused ps 1 c.args.values.now) c.deref-2.ensures.value))
    (c.in-Ok-replace.ensures.value
    ∙ (ap (λ (l : List ℕ). replaced_from c.args.values.now l 0 c.deref-3.result.now)
    (c.as_bytes.ensures.value ∙ text.0)
    ∙ ap (replaced_from c.args.values.now c.args.formula.now 0) c.deref-3.ensures.value))
