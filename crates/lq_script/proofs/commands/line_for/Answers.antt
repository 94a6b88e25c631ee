use Rattle.std.proofs.Common.{rules, ◌≡◌, ℕ, List, Err, inl, inr, subst}
use Rattle.lq_value.specs.declared.refusal.Refusal.{Refusal}
use Rattle.lq_value.specs.declared.refusal.Refusal.TheVariants.{BadQuery}
use Rattle.lq_predicate.specs.Faults.{IsFaulty}
use Rattle.lq_predicate.specs.Refusals.{IsRefusalOf}
use Rattle.lq_script.proofs.commands.line_for.Goals as goal

-- a refusal that names a place names the one where the text is faulty
faulty_at : (text : List ℕ) (e : Refusal) → IsRefusalOf text e
    → (place : ℕ) → e ≡ BadQuery place → IsFaulty text place
faulty_at text e (inl fault) place is =
    let same : fault.0 ≡ place = let named = fault.1 in cc in
    subst (IsFaulty text) same fault.2
faulty_at text e (inr memory) place is = absurd (let none = memory.0 in cc)

pub returns-in_err-line-clause-fault : goal.returns-in_err-line-clause-fault
returns-in_err-line-clause-fault c =
    let e = c.in_err-line.field-0.0 in
    let is : c.from_residual.result ≡ Err e = search rules in
    rw is (faulty_at c.args.formula.now e c.in_err-line.ensures.fails)
