-- What a run over a script answers, and what its reader and its writer say before and after it.
use Rattle.std.specs.Prelude.{◌≡◌, ◌⊎◌, List, ℕ, Option, Bool, true, false, Result, Err, OnOk, OnErr, IsErrOf}
use Rattle.lq_script_lines.specs.Lines.{Rules}
use Rattle.lq_script_lines.specs.Output.{Answered, Ended, Halted, NotBegun, Passed, Stopped}
use Rattle.lq_script_lines.specs.declared.run_fault.RunFault.{RunFault}
use Rattle.lq_script_lines.specs.declared.run_fault.RunFault.TheVariants.{Limit, Memory, Read, Thread, Write}

-- the bytes that a reader has left, before and after, and whether it failed
pub record ReaderLog : Type 0 where
  pub left : Option (List ℕ)
  pub left' : Option (List ℕ)
  pub failed : Bool

-- the bytes that a writer has taken, before and after, whether it failed or took none of some
-- bytes, and whether no write came after its last flush
pub record WriterLog : Type 0 where
  pub written : Option (List ℕ)
  pub written' : Option (List ℕ)
  pub failed : Bool
  pub stalled : Bool
  pub flushed : Bool

abbrev pub log_of_reader : Option (List ℕ) → Option (List ℕ) → Bool → ReaderLog
log_of_reader left left' failed = record { left = left; left' = left'; failed = failed }

abbrev pub log_of_writer : Option (List ℕ) → Option (List ℕ) → Bool → Bool → Bool → WriterLog
log_of_writer written written' failed stalled flushed = record {
  written = written;
  written' = written';
  failed = failed;
  stalled = stalled;
  flushed = flushed;
}

-- The reader may be read whenever exactly the lines that LF ended by then are answered: in each
-- state of it, with each state of the writer in which the replies to those lines are written, and
-- no more. A read is given the writer, so the state is that of the run's writer at the read.
abbrev pub MayReadAfterReplies : {R W State : Type 0} → Rules State → State
    → (R → Option (List ℕ)) → (W → Option (List ℕ)) → (R → W → Type 0) → R → W → Type 0
MayReadAfterReplies {R} {W} rules state left written may_read reader writer =
    (reader' : R) → (writer' : W)
    → Ended rules state (left reader) (left reader') (written writer) (written writer')
    → may_read reader' writer'

-- A run that succeeded wrote the whole output, and no device failed. After a fault, the bytes
-- written are a prefix of the output for the bytes read; after a read fault and at a limit, they
-- are the output for the lines that LF ended. Where memory ran out, they are that for the lines
-- before one that has no reply, or the run never began; the reader hasn't failed, and each write
-- took some bytes. So if all replies are written, none of them is empty and only the flush failed,
-- the fault is Write. Read, Write and Limit have their cause in the run; no contract sees whether
-- memory ran out.
pub record IsRunOutcome {State : Type 0} (rules : Rules State) (state : State)
    (result : Result (Unit {0}) RunFault) (r : ReaderLog) (w : WriterLog) : Type 0 where
  pub ok : OnOk result (Answered rules state r.left r.left' w.written w.written')
  pub flushed : OnOk result (w.flushed ≡ true)
  pub works : OnOk result
      ((r.failed ≡ false) × (w.failed ≡ false) × (w.stalled ≡ false))
  pub err : OnErr result (Stopped rules state r.left r.left' w.written w.written')
  pub flush : OnErr result
      ((result ≡ Err Write) ⊎ ((w.flushed ≡ true) ⊎ (w.failed ≡ true)))
  pub read : IsErrOf result Read → Ended rules state r.left r.left' w.written w.written'
  pub limit : IsErrOf result Limit → Passed rules state r.left r.left' w.written w.written'
  pub memory : IsErrOf result Memory → Halted rules state r.left r.left' w.written w.written'
      ⊎ NotBegun r.left r.left' w.written w.written'
  pub memory_works : IsErrOf result Memory → (r.failed ≡ false) × (w.stalled ≡ false)
  pub read_fails : IsErrOf result Read → r.failed ≡ true
  pub write_fails : IsErrOf result Write → (w.failed ≡ true) ⊎ (w.stalled ≡ true)
  pub no_thread : IsErrOf result Thread → ⊥
