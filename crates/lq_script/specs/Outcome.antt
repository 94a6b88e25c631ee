-- What the program does with its three streams, for what its arguments ask.
use Rattle.std.specs.Prelude.{◌≡◌, ◌⊎◌, ◌≤◌, ℕ, List, true, Ok, Err}
use Rattle.lq_predicate.specs.Faults.{IsFaulty}
use Rattle.lq_script_lines.specs.Output.{Answered, Stopped}
use Rattle.lq_script_lines.specs.Outcome.{ReaderLog, WriterLog}
use Rattle.lq_script_lines.specs.Words.{IsCheckOf, IsRun, IsThreads, IsUsage}
use Rattle.lq_script_lines.specs.declared.run_fault.RunFault.{RunFault}
use Rattle.lq_script_desk.specs.Script.{script_session, world_rules}
use Rattle.lq_script.specs.Changes.{TellsAllChanges}
use Rattle.lq_script.specs.Written.{IsRunFault, Prints, PrintsFront, WritesOrFails}
use Rattle.lq_script.specs.Written.{fault_line, refusal_line, usage_line}

-- the three streams before and after, and what they say of their bytes
pub record Transcript (R W F : Type 0) : Type 0 where
  pub reader : R
  pub reader' : R
  pub writer : W
  pub writer' : W
  pub faults : F
  pub faults' : F
  pub read : ReaderLog
  pub wrote : WriterLog
  pub reported : WriterLog

abbrev pub transcript_of : {R W F : Type 0} → R → R → W → W → F → F
    → ReaderLog → WriterLog → WriterLog → Transcript R W F
transcript_of reader reader' writer writer' faults faults' read wrote reported = record {
  reader = reader;
  reader' = reader';
  writer = writer;
  writer' = writer';
  faults = faults;
  faults' = faults';
  read = read;
  wrote = wrote;
  reported = reported;
}

-- a line went to standard error
abbrev pub TellsLine : {R W F : Type 0} → Transcript R W F → List ℕ → Type 0
TellsLine t line = WritesOrFails line t.reported.written t.reported.written' t.reported.failed
    t.reported.stalled

-- a fault went there, and the streams are as this fault says
pub record TellsFault {R W F : Type 0} (t : Transcript R W F) : Type 0 where
  pub fault : RunFault
  pub line : TellsLine t (fault_line fault)
  pub is : IsRunFault fault t.read.left t.read.left' t.read.failed
      t.wrote.written t.wrote.written' t.wrote.failed t.wrote.stalled

-- the formula's leftmost fault went there
pub record TellsRefusal {R W F : Type 0} (t : Transcript R W F) (formula : List ℕ) : Type 0 where
  pub place : ℕ
  pub is : IsFaulty formula place
  pub line : TellsLine t (refusal_line place)

-- Of `run`: status 0 where the whole script was carried out, or 1, with a prefix of its output.
pub record HasRun {R W F : Type 0} (status : ℕ) (t : Transcript R W F) : Type 0 where
  pub done : status ≡ 0 → Answered world_rules script_session
      t.read.left t.read.left' t.wrote.written t.wrote.written'
  pub stopped : status ≡ 1 → Stopped world_rules script_session
      t.read.left t.read.left' t.wrote.written t.wrote.written'
  pub never_refused : status ≤ 1

-- Of `threads`: status 0 where the whole script was carried out, or 1, with a fault. A server's
-- changes and the replies are those of a script's lines.
pub record HasRunThreads {R W F : Type 0} (status : ℕ) (t : Transcript R W F) : Type 0 where
  pub done : status ≡ 0 → TellsAllChanges (Ok tt) t.read t.wrote.written t.wrote.written'
  pub stopped : status ≡ 1 → (fault : RunFault) × (TellsLine t (fault_line fault)
      × TellsAllChanges (Err fault) t.read t.wrote.written t.wrote.written')
  pub never_refused : status ≤ 1

-- Of `check`: status 0 where the formula was printed, 1 with a prefix of that, or nothing, and 2
-- where the formula is refused.
pub record HasChecked {R W F : Type 0} (formula : List ℕ) (status : ℕ)
    (t : Transcript R W F) : Type 0 where
  pub done : status ≡ 0 → Prints formula t.wrote.written t.wrote.written'
  pub stopped : status ≡ 1 →
      (t.writer' ≡ t.writer) ⊎ PrintsFront formula t.wrote.written t.wrote.written'
  pub refused : status ≡ 2 → TellsRefusal t formula

-- What each status says, by the arguments. Status 0 says nothing on standard error, 1 says a fault
-- there, and 2 writes nothing. Only a script is read, and other arguments never succeed.
pub record IsOutcome {R W F : Type 0} (words : List (List ℕ)) (status : ℕ)
    (t : Transcript R W F) : Type 0 where
  pub at_most : status ≤ 2
  pub run : IsRun words → HasRun status t
  pub threads : IsThreads words → HasRunThreads status t
  pub check : (formula : List ℕ) → IsCheckOf words formula → HasChecked formula status t
  pub usage : IsUsage words → status ≡ 2 → TellsLine t usage_line
  pub other : IsUsage words → (1 ≤ status) × (t.writer' ≡ t.writer)
  pub quiet : status ≡ 0 → t.faults' ≡ t.faults
  pub flushed : ¬ IsThreads words → status ≡ 0 → t.wrote.flushed ≡ true
  pub fault : ¬ IsThreads words → status ≡ 1 → TellsFault t
  pub writes_nothing : status ≡ 2 → t.writer' ≡ t.writer
  pub reads_nothing : ¬ IsRun words → ¬ IsThreads words → t.reader' ≡ t.reader
