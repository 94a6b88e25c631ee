use Rattle.std.proofs.Common.{◌≡◌, Err, inl, inr, refl, rules, sym}
use Rattle.std.proofs.KnownBytes.{Appends-kept}
use Rattle.lq_script_lines.specs.declared.run_fault.RunFault.TheVariants.{Write}
use Rattle.lq_script_lines.proofs.CallLemmas.{writes_end}
use Rattle.lq_script_lines.proofs.ResultLemmas.{no_other, not_ok, when_err, when_ok}
use Rattle.lq_script_lines.proofs.ProgressLemmas.{fronts_all, fronts_handed, halted_now, halts_handed, stands_last, stands_stops, stands_output}
use Rattle.lq_script_lines.proofs.input_pieces.finish.Goals as goal

pub returns-in_err-write_and_flush-clause-err : goal.returns-in_err-write_and_flush-clause-err
returns-in_err-write_and_flush-clause-err g c =
    let same = when_err c.answer.result (sym c.if-is_err.ensures.value) c.answer.ensures.err in
    let is : c.from_residual.result ≡ Err Write = search rules in
    rw is (λ began given s.
    fronts_handed (rw same (stands_stops s)) c.in_err-write_and_flush.ensures.err)

pub returns-then-is_err-clause-err : goal.returns-then-is_err-clause-err
returns-then-is_err-clause-err g c =
    let same = when_err c.answer.result (sym c.if-is_err.ensures.value) c.answer.ensures.err in
    λ began given s. fronts_all (rw same (stands_stops s)) c.in_ok-write_and_flush.ensures.ok

pub returns-then-is_err-clause-memory : goal.returns-then-is_err-clause-memory
returns-then-is_err-clause-memory g c =
    let failed = sym c.if-is_err.ensures.value in
    let same = when_err c.answer.result failed c.answer.ensures.err in
    λ _ began given s. halts_handed (rw same (halted_now s (λ long line.
    not_ok c.answer.result failed (c.answer.ensures.empty long line))))
    c.in_ok-write_and_flush.ensures.ok

pub returns-in_err-write_replies-clause-err : goal.returns-in_err-write_replies-clause-err
returns-in_err-write_replies-clause-err g c =
    let replies = when_ok c.answer.result (sym c.if-is_err.ensures.value) c.answer.ensures.ok in
    let is : c.from_residual-in_err-write_replies.result ≡ Err Write = search rules in
    rw is (λ began given s.
    fronts_handed (stands_last s replies) c.in_err-write_replies.ensures.err)

pub returns-in-Ok-clause-ok : goal.returns-in-Ok-clause-ok
returns-in-Ok-clause-ok g c = λ began given s.
    let replies = when_ok c.answer.result (sym c.if-is_err.ensures.value) c.answer.ensures.ok in
    stands_output s replies _
    (Appends-kept _ _ _ _ c.in_ok-write_replies.ensures.ok c.flush.ensures.bytes)

pub returns-in-Err-clause-err : goal.returns-in-Err-clause-err
returns-in-Err-clause-err g c = λ began given s.
    let replies = when_ok c.answer.result (sym c.if-is_err.ensures.value) c.answer.ensures.ok in
    fronts_all (stands_last s replies)
    (Appends-kept _ _ _ _ c.in_ok-write_replies.ensures.ok c.flush.ensures.bytes)

-- a fault of the flush isn't one of memory
pub returns-in-Err-clause-memory : goal.returns-in-Err-clause-memory
returns-in-Err-clause-memory g c = λ h. no_other h refl

pub returns-in_err-write_and_flush-clause-calls : goal.returns-in_err-write_and_flush-clause-calls
returns-in_err-write_and_flush-clause-calls g c =
    let is : c.from_residual.result ≡ Err Write = search rules in
    rw is (inl c.in_err-write_and_flush.ensures.ends)

pub returns-then-is_err-clause-calls : goal.returns-then-is_err-clause-calls
returns-then-is_err-clause-calls g c = c.in_ok-write_and_flush.ensures.flushes

pub returns-in_err-write_replies-clause-calls : goal.returns-in_err-write_replies-clause-calls
returns-in_err-write_replies-clause-calls g c =
    let is : c.from_residual-in_err-write_replies.result ≡ Err Write = search rules in
    rw is (inl c.in_err-write_replies.ensures.ends)

pub returns-in-Ok-clause-calls : goal.returns-in-Ok-clause-calls
returns-in-Ok-clause-calls g c =
    writes_end _ _ _ c.in_ok-write_replies.ensures.writes _ c.in-Ok.ensures.call

pub returns-in-Err-clause-calls : goal.returns-in-Err-clause-calls
returns-in-Err-clause-calls g c =
    inr (writes_end _ _ _ c.in_ok-write_replies.ensures.writes _ c.in-Err.ensures.call)
