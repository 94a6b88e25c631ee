-- What the command that the arguments ask for does is what the program does.
use Rattle.std.proofs.Common.{arith, ◌≡◌, ◌⊎◌, inl, inr, ap, refl, subst, sym, Err}
use Rattle.lq_script_lines.specs.Words.{IsAskedBy, texts_of}
use Rattle.lq_script_lines.specs.declared.run_fault.RunFault.{RunFault}
use Rattle.lq_script_lines.specs.declared.run_fault.RunFault.TheVariants.{Memory, Write}
use Rattle.lq_script.specs.Written.{IsRunFault, WritesOrFails, fault_line}
use Rattle.lq_script.proofs.OutcomeLemmas.{after_check, after_run, after_threads, after_usage, never_began, without_memory}
use Rattle.lq_script.proofs.arguments.program.Goals as goal

pub returns-in-Ok-Run : goal.returns-in-Ok-Run
returns-in-Ok-Run g c =
    let said = c.run_script.ensures in
    record {
      outcome = after_run (texts_of c.args.words.now) c.run_script.result _
          (subst (IsAskedBy (texts_of c.args.words.now)) c.in-Ok-Run.field-0-is
          c.in-Ok-Run.ensures.ok)
          (record { done = said.done; stopped = said.stopped; never_refused = said.status })
          said.quiet said.flushed (λ one. let fault = said.fault one in record {
            fault = fault.0;
            line = fault.1.0;
            is = fault.1.1;
          });
    }

pub returns-in-Ok : goal.returns-in-Ok
returns-in-Ok g c = record {
  outcome = after_threads (texts_of c.args.words.now) 0 _
      (subst (IsAskedBy (texts_of c.args.words.now)) c.in-Ok-Threads.field-0-is
      c.in-Ok-Threads.ensures.ok)
      (record {
        done = λ _. c.in-Ok.ensures.changes;
        stopped = λ one. absurd (let bad : ⊥ = omega (arith, one) in bad);
        never_refused = omega arith;
      })
      (λ _. refl);
}

pub returns-in-Err : goal.returns-in-Err
returns-in-Err g c =
    let said = c.report_fault.ensures in
    record {
      outcome = after_threads (texts_of c.args.words.now) c.report_fault.result _
          (subst (IsAskedBy (texts_of c.args.words.now)) c.in-Ok-Threads.field-0-is
          c.in-Ok-Threads.ensures.ok)
          (record {
            done = λ none. absurd (let bad : ⊥ = omega (arith, none, said.status) in bad);
            stopped = λ _. (
              c.in-Err.fault,
              (said.reported, c.in-Err.ensures.changes),
            );
            never_refused = omega (arith, said.status);
          })
          (λ none. absurd (let bad : ⊥ = omega (arith, none, said.status) in bad));
    }

-- a fault of memory or of the writer is a fault
one_fault : {A B : Type 0} {P : RunFault → Type 0} → (A → P Memory) → (B → P Write) → A ⊎ B
    → (fault : RunFault) × P fault
one_fault f g (inl a) = (Memory, f a)
one_fault f g (inr b) = (Write, g b)

pub returns-in-Ok-Check : goal.returns-in-Ok-Check
returns-in-Ok-Check g c =
    let said = c.check_formula.ensures in
    let words = texts_of c.args.words.now in
    let now = c.args.reader.now in
    let old = c.args.writer.now in
    let new = c.check_formula.new.writer in
    let told = c.check_formula.new.faults in
    let fault_of : c.check_formula.result ≡ 1 → (fault : RunFault)
    × (WritesOrFails (fault_line fault) (g.F.Sink.written c.args.faults.now)
    (g.F.Sink.written told) (g.F.Sink.failed told) (g.F.Sink.stalled told)
    × IsRunFault fault (g.R.Source.left now) (g.R.Source.left now) (g.R.Source.failed now)
    (g.W.Sink.written old) (g.W.Sink.written new) (g.W.Sink.failed new) (g.W.Sink.stalled new)) =
    λ one. one_fault (λ memory. (
      memory.0,
      subst
          (λ writer. IsRunFault Memory (g.R.Source.left now) (g.R.Source.left now)
          (g.R.Source.failed now) (g.W.Sink.written old) (g.W.Sink.written writer)
          (g.W.Sink.failed writer) (g.W.Sink.stalled writer)) (sym memory.1)
          ((c.requires.reader_works, c.requires.writer_moves), never_began _ _),
    )) (λ write. write) (said.fault one) in
    record {
      outcome = after_check words c.check_formula.result _ c.in-Ok-Check.formula.now
          (subst (IsAskedBy words) c.in-Ok-Check.field-0-is c.in-Ok-Check.ensures.ok)
          (record {
            done = said.done;
            stopped = said.stopped;
            refused = λ two. let refused = said.refused two in record {
              place = refused.0;
              is = refused.1.0;
              line = refused.1.1;
            };
          })
          said.status said.quiet said.flushed
          (λ one. let fault = fault_of one in record {
            fault = fault.0;
            line = fault.1.0;
            is = fault.1.1;
          })
          said.writes_nothing refl;
    }

pub returns-in-Err-NoMemory : goal.returns-in-Err-NoMemory
returns-in-Err-NoMemory g c =
    let said = c.report_fault-in-Err-NoMemory.ensures in
    record {
      outcome =
          without_memory (texts_of c.args.words.now) c.report_fault-in-Err-NoMemory.result _ _ _ _ _
          _ _ _
          _ _ _ said.status c.requires.reader_works c.requires.writer_moves said.reported;
    }

pub returns-in-Err-Usage : goal.returns-in-Err-Usage
returns-in-Err-Usage g c = record {
  outcome = after_usage (texts_of c.args.words.now) c.report_usage.result _
      (c.in-Err-Usage.ensures.usage (ap Err c.in-Err-Usage.field-0-is))
      c.report_usage.ensures.status c.report_usage.ensures.reported refl refl;
}
