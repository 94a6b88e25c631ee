use Rattle.std.proofs.Common.{◌≡◌, ◌+◌, ◌≤◌, ℕ, List, [], ◌∷◌, length, suc, zero, refl, sym, ap, ◌∙◌, arith, append-nil, Bool}
use Rattle.lq_value.specs.declared.entry.Entry.{Entry}
use Rattle.lq_predicate.specs.Query.{Query}
use Rattle.lq_volume.specs.declared.change.Change.{Change}
use Rattle.lq_volume.specs.State.{State}
use Rattle.lq_volume.specs.Change.{after}
use Rattle.lq_update.specs.declared.message.Opcode.{Opcode}
use Rattle.lq_update.specs.Diff.{diff}
use Rattle.lq_update.specs.Options.{no_values}
use Rattle.lq_update.specs.Updates.{numbered, step_of}
use Rattle.lq_tests.proofs.plain_step.step.Goals as goal
use Rattle.lq_tests.proofs.plain_step.step.Goals.{In_ok-differences}

-- as few as messages are the differences that they number
few-numbered : (seq number most : ℕ) (xs : List (Opcode × Entry))
    → length (numbered seq number xs) ≤ most → length xs ≤ most
few-numbered seq number most [] few = few
few-numbered seq number zero (x ∷ xs) few = absurd (omega (arith, few))
few-numbered seq number (suc most) (x ∷ xs) few =
    let rest = few-numbered (seq + 1) number most xs (omega (arith, few)) in omega arith

-- what is told is the difference of the two results
told-diff : (c : In_ok-differences) → c.in_ok-differences.differences.items
    ≡ diff c.args.predicate.now c.args.moved c.args.before.now
    (after c.args.before.now c.args.change.now)
told-diff c =
    c.in_ok-differences.ensures.value ∙ rw (
      c.deref.ensures.value,
      c.deref-2.ensures.value,
      c.in_ok-old.ensures.entries,
      c.in_ok-new.ensures.entries,
    ) refl

-- where no values are told, that is all
plain : (q : Query) (moved : Bool) (s : State) (c : Change) (seq : ℕ)
    → step_of q (no_values moved) s c seq ≡ numbered seq (s.number + 1) (diff q moved s (after s c))
plain q moved s c seq = ap (numbered seq (s.number + 1)) (append-nil (diff q moved s (after s c)))

pub number_all-requires-clause-few : goal.number_all-requires-clause-few
number_all-requires-clause-few c =
    let few = c.steps_are_few.ensures c.args.predicate.now (no_values c.args.moved)
    c.args.before.now c.args.change.now c.args.first_seq c.changes-number.ensures.volume
    c.requires.lawful in
    rw (told-diff c) (few-numbered _ _ 3 _ (rw (plain c.args.predicate.now c.args.moved
    c.args.before.now c.args.change.now c.args.first_seq) at few))

pub returns-clause-messages : goal.returns-clause-messages
returns-clause-messages c = c.in_ok-number_all.ensures.messages
    ∙ (rw (
      told-diff (goal.at.returns-clause-messages c).In_ok-differences,
      c.changes-number.ensures.number,
    ) refl
    ∙ sym (plain c.args.predicate.now c.args.moved c.args.before.now c.args.change.now
    c.args.first_seq))

pub returns-clause-few : goal.returns-clause-few
returns-clause-few c =
    let few = c.steps_are_few.ensures c.args.predicate.now (no_values c.args.moved)
    c.args.before.now c.args.change.now c.args.first_seq c.changes-number.ensures.volume
    c.requires.lawful in
    let all : length c.in_ok-number_all.field-0.items ≤ 3 = rw (
      c.in_ok-number_all.ensures.messages,
      told-diff (goal.at.returns-clause-few c).In_ok-differences,
      c.changes-number.ensures.number,
    ) (rw (plain c.args.predicate.now c.args.moved c.args.before.now c.args.change.now
    c.args.first_seq) at few) in
    omega (arith, c.in_ok-number_all.field-0.ok)
