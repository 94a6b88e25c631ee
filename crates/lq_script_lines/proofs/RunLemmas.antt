-- What a whole run has read and written, from what it knows at its end.
use Rattle.std.proofs.Common.{◌≡◌, ℕ, ◌+◌, ◌-◌, ◌≢◌, ◌≤◌, ◌<◌, ◌⊎◌, ◌++◌, List, [], length, take, drop, get_or, true, false, Option, Result, Err, IfErr, OnErr, OnOk, refl, sym, ◌∙◌, arith, append_assoc, append-nil, length-append, length-take, inl, inr}
use Rattle.std.proofs.lemmas.List.{drop_more}
use Rattle.std.proofs.lemmas.Result.{on_ok_weaker}
use Rattle.std.proofs.KnownBytes.{Consumes-trans}
use Rattle.std.specs.Io.KnownBytes.{Consumes}
use Rattle.lq_script_lines.specs.declared.intake.Intake.{Intake}
use Rattle.lq_script_lines.specs.Lines.{Rules}
use Rattle.lq_script_lines.specs.Outcome.{IsRunOutcome, ReaderLog, WriterLog}
use Rattle.lq_script_lines.specs.declared.run_fault.RunFault.{RunFault}
use Rattle.lq_script_lines.specs.declared.run_fault.RunFault.TheVariants.{Memory, Read, Write}
use Rattle.lq_script_lines.proofs.ResultLemmas.{else_memory, neither, no_other}
use Rattle.lq_script_lines.specs.Output.{Answered, Ended, Halted, Passed, Stopped}
use Rattle.lq_script_lines.specs.Progress.{Began, Fronts, Halts, HasCome, Meets, RunStands}
use Rattle.lq_script_lines.proofs.ProgressLemmas.{given_rest, stands_ended}

-- a read that gave nothing
pub read_none : (l l' l'' : Option (List ℕ)) (given buf : List ℕ) (n : ℕ)
    → n ≡ 0 → Consumes l l' given → Consumes l' l'' (take n buf) → Consumes l l'' given
read_none l l' l'' given buf n e h k =
    rw append-nil at (Consumes-trans l l' l'' given [] h (rw e at k))

module _ {State : Type 0} {rules : Rules State} {began : Began State} {given : List ℕ}
    {w : Option (List ℕ)} {state : State} {intake : Intake} {out : List ℕ}
    (s : RunStands rules began given w state intake out) where
  -- a run that stops between two reads
  pub run_ended : {l l' : Option (List ℕ)} → Consumes l l' given → out ≡ []
      → Ended rules began.state l l' began.written w
  run_ended h none = record {
    given = given;
    consumed = h;
    within = s.come.within;
    appended = stands_ended s none;
  }

module _ {State : Type 0} {rules : Rules State} {began : Began State} {l l' w : Option (List ℕ)}
    {given : List ℕ} (h : Consumes l l' given) where
  -- a run that stops has written a front of the output
  pub run_stopped : {out : List ℕ} → Fronts rules began given w out
      → Stopped rules began.state l l' began.written w
  run_stopped {out} f = record {
    given = given;
    consumed = h;
    text = f.text;
    appended = f.appended;
    front = (out ++ f.front.0, sym (append_assoc f.text out f.front.0) ∙ f.front.1);
  }

  -- a run that stops at a line
  pub run_halted : Halts rules began given w [] → Halted rules began.state l l' began.written w
  run_halted t = record {
    given = given;
    consumed = h;
    lines = t.lines;
    next = t.next;
    rest = t.rest;
    front = t.front;
    appended = rw (← t.due, append-nil) t.appended;
  }

-- a run that stops at a limit in a piece
pub run_passed : {State : Type 0} {rules : Rules State} {began : Began State}
    {l l' w : Option (List ℕ)} {given piece : List ℕ} {state : State} {intake : Intake}
    → Consumes l l' (given ++ piece) → Meets rules began given piece w state intake []
    → Passed rules began.state l l' began.written w
run_passed {given} {piece} h m = record {
  given = given ++ take m.count piece;
  next = get_or piece m.count 0;
  rest = drop (m.count + 1) piece;
  consumed = rw (← drop_more piece m.count 0 m.follows, given_rest) h;
  within = m.stands.come.within;
  passes = m.passes;
  appended = stands_ended m.stands refl;
}

-- a read that gave bytes leaves less to read
pub less_left : (given : List ℕ) (n : ℕ) (buf : List ℕ) → n ≢ 0 → n ≤ length buf
    → {old new : Intake} → HasCome given old → HasCome (given ++ take n buf) new
    → 1073741824 - new.bytes < 1073741824 - old.bytes
less_left given n buf some bound h k = omega (
  arith,
  some,
  bound,
  h.bytes,
  k.bytes,
  k.within.1,
  length-append given (take n buf),
  length-take n buf,
)

module _ {State : Type 0} {rules : Rules State} {state : State} {r : ReaderLog} {w : WriterLog}
    (stopped : Stopped rules state r.left r.left' w.written w.written') where
  -- a run that a fault of the writer stopped
  pub write_outcome : (w.failed ≡ true) ⊎ (w.stalled ≡ true)
      → IsRunOutcome rules state (Err Write) r w
  write_outcome cause = record {
    ok = tt;
    flushed = tt;
    works = tt;
    err = stopped;
    flush = inl refl;
    read = λ h. no_other h refl;
    limit = λ h. no_other h refl;
    memory = λ h. no_other h refl;
    memory_works = λ h. no_other h refl;
    read_fails = λ h. no_other h refl;
    write_fails = λ _. cause;
    no_thread = λ h. no_other h refl;
  }

  -- a run that a fault of the reader stopped, with the writer flushed
  pub read_outcome : Ended rules state r.left r.left' w.written w.written'
      → (w.flushed ≡ true) ⊎ (w.failed ≡ true) → r.failed ≡ true
      → IsRunOutcome rules state (Err Read) r w
  read_outcome ended flushed fails = record {
    ok = tt;
    flushed = tt;
    works = tt;
    err = stopped;
    flush = inr flushed;
    read = λ _. ended;
    limit = λ h. no_other h refl;
    memory = λ h. no_other h refl;
    memory_works = λ h. no_other h refl;
    read_fails = λ _. fails;
    write_fails = λ h. no_other h refl;
    no_thread = λ h. no_other h refl;
  }

-- a run whose last line was answered, or stopped there
pub end_outcome : {State : Type 0} {rules : Rules State} {state : State}
    {result : Result (Unit {0}) RunFault} {r : ReaderLog} {w : WriterLog}
    → OnOk result (Answered rules state r.left r.left' w.written w.written')
    → OnErr result (Stopped rules state r.left r.left' w.written w.written')
    → (result ≡ Err Memory → Halted rules state r.left r.left' w.written w.written')
    → r.failed ≡ false
    → OnOk result ((w.failed ≡ false) × (w.stalled ≡ false))
    → (result ≡ Err Memory → w.stalled ≡ false)
    → IfErr result (λ e. (e ≡ Write) ⊎ (e ≡ Memory))
    → (result ≡ Err Write → (w.failed ≡ true) ⊎ (w.stalled ≡ true))
    → OnOk result (w.flushed ≡ true)
    → (result ≡ Err Memory → (w.flushed ≡ true) ⊎ (w.failed ≡ true))
    → IsRunOutcome rules state result r w
end_outcome {result} ok err memory reads works moves fault cause flushed memory_flushed = record {
  ok = ok;
  flushed = flushed;
  works = on_ok_weaker result (λ same. (reads, same.0, same.1)) works;
  err = err;
  flush = else_memory result fault memory_flushed;
  read = λ h. neither h fault refl refl;
  limit = λ h. neither h fault refl refl;
  memory = λ h. inl (memory h);
  memory_works = λ h. (reads, moves h);
  read_fails = λ h. neither h fault refl refl;
  write_fails = cause;
  no_thread = λ h. neither h fault refl refl;
}
