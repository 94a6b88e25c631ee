use Rattle.std.proofs.Common.{◌≡◌, ◌∙◌, Err, ap, rules, refl, sym, inl, inr}
use Rattle.lq_script_lines.specs.declared.run_fault.RunFault.TheVariants.{Write}
use Rattle.lq_script_lines.proofs.CallLemmas.{other_ends, other_writes, write_only, writes_before}
use Rattle.lq_script_lines.proofs.ResultLemmas.{no_other}
use Rattle.lq_script_lines.proofs.ProgressLemmas.{fronts_all, fronts_handed, halts_handed, stands_handed}
use Rattle.lq_script_lines.proofs.script_run.take_block.Goals as goal

pub returns-then-is_write-clause-cause : goal.returns-then-is_write-clause-cause
returns-then-is_write-clause-cause g c =
    let is = write_only c.in-Err.fault (sym c.is_write.ensures ∙ c.if-is_write.true) in
    λ _. c.in-Err.ensures.taken.cause (ap Err is)

pub returns-then-is_write-clause-calls_err : goal.returns-then-is_write-clause-calls_err
returns-then-is_write-clause-calls_err g c =
    let is = write_only c.in-Err.fault (sym c.is_write.ensures ∙ c.if-is_write.true) in
    inl (rw is at c.in-Err.ensures.calls)

pub returns-in_err-write_and_flush-in-Err : goal.returns-in_err-write_and_flush-in-Err
returns-in_err-write_and_flush-in-Err g c =
    let is : c.from_residual.result ≡ Err Write = search rules in
    let failed = c.in_err-write_and_flush-in-Err.ensures in rw is (record {
      ok = tt;
      works = tt;
      err = λ began given s. rw c.write_and_flush.ensures.empty
          (fronts_handed (c.in-Err.ensures.taken.err began given s) failed.err);
      limit = λ h. no_other h refl;
      memory = λ h. no_other h refl;
      memory_works = λ h. no_other h refl;
      flushed = inl refl;
      not_read = λ h. no_other h refl;
      not_thread = λ h. no_other h refl;
      cause = λ _. failed.cause;
      calls = tt;
      calls_err = inl (
        failed.ends.0,
        writes_before _ _ _
            (other_writes _ _ c.in-Err.fault (sym c.is_write.ensures ∙ c.if-is_write.false)
            c.in-Err.ensures.calls) _ failed.ends.1,
      );
    })

pub returns-in_ok-write_and_flush-in-Err : goal.returns-in_ok-write_and_flush-in-Err
returns-in_ok-write_and_flush-in-Err g c =
    let says = c.in-Err.ensures.taken in
    let wrote = c.in_ok-write_and_flush-in-Err.ensures in record {
      ok = tt;
      works = tt;
      err = λ began given s.
          rw c.write_and_flush.ensures.empty (fronts_all (says.err began given s) wrote.ok);
      limit = λ is began given s. let met = says.limit is began given s in record {
        count = met.count;
        follows = met.follows;
        stands = stands_handed met.stands wrote.ok refl;
        passes = met.passes;
      };
      memory = λ is began given s. halts_handed (says.memory is began given s) wrote.ok;
      memory_works = λ is. wrote.stalls ∙ (says.memory_works is).1;
      flushed = inr wrote.flushed;
      not_read = says.not_read;
      not_thread = says.not_thread;
      cause = λ is. c.write_and_flush.ensures.stays (says.cause is);
      calls = tt;
      calls_err =
          let other = sym c.is_write.ensures ∙ c.if-is_write.false in
          other_ends _ _ c.in-Err.fault other (
            wrote.flushes.0,
            writes_before _ _ _
                (other_writes _ _ c.in-Err.fault other c.in-Err.ensures.calls) _ wrote.flushes.1,
          );
    }
