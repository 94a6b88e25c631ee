-- The batch, and then the line's refusal.
use Rattle.std.proofs.Common.{rules, ◌≡◌, ◌≢◌, ◌⊎◌, ◌∷◌, [], Ok, Err, refl, sym, subst, ap, inl, inr}
use Rattle.lq_value.specs.declared.refusal.Refusal.{Refusal}
use Rattle.lq_value.specs.declared.refusal.Refusal.TheVariants.{NoMemory}
use Rattle.lq_script_desk.specs.Response.{Refuses}
use Rattle.lq_script.specs.Asked.{Asked, asked_by}
use Rattle.lq_script.specs.Answers.{Answers}
use Rattle.lq_script.proofs.ChangeLemmas.{made_same}
use Rattle.lq_script.proofs.AnswerLemmas.{answers_refused}
use Rattle.lq_script.proofs.ProgressLemmas.{carries_as, carries_memory, carries_more, carries_put, carries_then}
use Rattle.lq_script.proofs.runner.Runner.take_line.Goals as goal

pub returns-in-Ok-clause-carried : goal.returns-in-Ok-clause-carried
returns-in-Ok-clause-carried g c =
    carries_as (asked_by c.args.line.now ∷ []) (Ok c.in-Ok.request ∷ []) c.take_request.result
    c.take_request.result _ _ (ap (λ (a : Asked). a ∷ []) c.in-Ok.ensures.value) refl
    c.take_request.ensures.carried

pub returns-then-is_memory-clause-carried : goal.returns-then-is_memory-clause-carried
returns-then-is_memory-clause-carried g c = carries_memory (asked_by c.args.line.now ∷ []) _

-- what isn't for want of memory is the line's own refusal
refusal_is : (a : Asked) (e : Refusal) → (e ≡ NoMemory) ⊎ (a ≡ Err e) → e ≢ NoMemory → a ≡ Err e
refusal_is a e (inl memory) other = absurd (other memory)
refusal_is a e (inr is) other = is

pub returns-in_err-end_batch-in-Err-clause-carried :
    goal.returns-in_err-end_batch-in-Err-clause-carried
returns-in_err-end_batch-in-Err-clause-carried g c =
    let e = c.in_err-end_batch-in-Err.field-0.0 in
    let r = c.from_residual.result in
    let is : r ≡ Err e = search rules in
    carries_as (asked_by c.args.line.now ∷ []) (asked_by c.args.line.now ∷ []) r (Err e) _ _ refl is
    (carries_more [] (asked_by c.args.line.now ∷ []) e _ _
    c.in_err-end_batch-in-Err.ensures.carried)

pub returns-in_ok-end_batch-in-Err-clause-carried :
    goal.returns-in_ok-end_batch-in-Err-clause-carried
returns-in_ok-end_batch-in-Err-clause-carried g c =
    let batch = c.in_ok-end_batch-in-Err.ensures in
    let is = refusal_is (asked_by c.args.line.now) c.in-Err.refusal c.in-Err.ensures.refused
    (c.is_memory.ensures.no c.if-is_memory.false) in
    let seat = c.end_batch.new.self.session.seat in
    carries_then [] (asked_by c.args.line.now ∷ []) c.put.result _ _ _ _ batch.carried
    (carries_put (asked_by c.args.line.now) c.put.result _ _ (Refuses c.in-Err.refusal)
    batch.no_reads refl (made_same seat)
    (subst (λ (a : Asked). Answers seat seat (a ∷ []) [] (Refuses c.in-Err.refusal ∷ []))
    (sym is) (answers_refused seat c.in-Err.refusal (made_same seat))) c.put.ensures.put)
