-- The batch, and then the request with its reply.
use Rattle.std.proofs.Common.{rules, ◌≡◌, ◌∷◌, [], Ok, Err, refl, ap}
use Rattle.lq_script_desk.specs.Answer.{response_of}
use Rattle.lq_script_desk.specs.Response.{Refuses}
use Rattle.lq_script_lines.specs.declared.run_fault.RunFault.TheVariants.{Memory}
use Rattle.lq_script.specs.Asked.{asked_reads}
use Rattle.lq_script.proofs.ProgressLemmas.{carries_as, carries_more, carries_put, carries_quiet, carries_then}
use Rattle.lq_script.proofs.runner.Runner.take_request.Goals as goal

pub returns-in-Some-clause-carried : goal.returns-in-Some-clause-carried
returns-in-Some-clause-carried g c =
    carries_as (Ok c.args.request.now ∷ []) (asked_reads (c.in-Some.slot ∷ [])) c.put_read.result
    c.put_read.result _ _ (ap (λ r. Ok r ∷ []) c.in-Some.ensures.read) refl
    c.put_read.ensures.carried

pub returns-in_err-end_batch-clause-carried : goal.returns-in_err-end_batch-clause-carried
returns-in_err-end_batch-clause-carried g c =
    let r = c.from_residual.result in
    let is : r ≡ Err c.in_err-end_batch.field-0.0 = search rules in
    carries_as (Ok c.args.request.now ∷ []) (Ok c.args.request.now ∷ []) r
    (Err c.in_err-end_batch.field-0.0) _ _ refl is
    (carries_more [] (Ok c.args.request.now ∷ []) c.in_err-end_batch.field-0.0 _ _
    c.in_err-end_batch.ensures.carried)

pub returns-in-Ok-clause-carried : goal.returns-in-Ok-clause-carried
returns-in-Ok-clause-carried g c =
    carries_then [] (Ok c.args.request.now ∷ []) c.put.result _ _ _ _
    c.in_ok-end_batch.ensures.carried
    (carries_put (Ok c.args.request.now) c.put.result _ _ (response_of c.in-Ok.response)
    c.in_ok-end_batch.ensures.no_reads refl c.in-Ok.ensures.made c.in-Ok.ensures.replied
    c.put.ensures.put)

pub returns-then-is_memory-clause-carried : goal.returns-then-is_memory-clause-carried
returns-then-is_memory-clause-carried g c =
    carries_then [] (Ok c.args.request.now ∷ []) (Err Memory) _ _ _ _
    c.in_ok-end_batch.ensures.carried
    (carries_quiet (Ok c.args.request.now ∷ []) _ _ c.in-Err.ensures.err refl refl)

pub returns-else-is_memory-clause-carried : goal.returns-else-is_memory-clause-carried
returns-else-is_memory-clause-carried g c =
    carries_then [] (Ok c.args.request.now ∷ []) c.put-in-Err.result _ _ _ _
    c.in_ok-end_batch.ensures.carried
    (carries_put (Ok c.args.request.now) c.put-in-Err.result _ _ (Refuses c.in-Err.refusal)
    c.in_ok-end_batch.ensures.no_reads refl c.in-Err.ensures.err
    (c.in-Err.ensures.refused.refused (c.is_memory.ensures.no c.if-is_memory.false))
    c.put-in-Err.ensures.put)
