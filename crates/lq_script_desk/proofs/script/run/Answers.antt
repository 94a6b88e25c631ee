use Rattle.std.proofs.Common.{◌≡◌, List, ℕ, [], refl, ap, ◌∙◌, ◌⊎◌, Err, inr}
use Rattle.std.proofs.KnownBytes.{Appends-nil, Consumes-nil}
use Rattle.std.specs.Io.KnownBytes.{Appends, Keeps}
use Rattle.std.specs.Prelude.{Bool, Option, Some, None, Result, true, false}
use Rattle.lq_script_lines.specs.Lines.{Rules}
use Rattle.lq_script_lines.specs.Output.{output_of}
use Rattle.lq_script_lines.specs.Outcome.{IsRunOutcome, log_of_reader, log_of_writer}
use Rattle.lq_script_lines.specs.declared.run_fault.RunFault.{RunFault}
use Rattle.lq_script_lines.specs.declared.run_fault.RunFault.TheVariants.{Memory}
use Rattle.lq_script_desk.specs.Script.{script_session, world_rules}
use Rattle.lq_script_desk.proofs.TellLemmas.{run-tells}
use Rattle.lq_script_desk.proofs.script.run.Goals as goal

-- what keeps its bytes appends none
keeps_appends : (b c : Option (List ℕ)) → Keeps b c → Appends b c []
keeps_appends None c k = tt
keeps_appends (Some x) None k = absurd k
keeps_appends (Some x) (Some y) k = k ∙ Appends-nil (Some x)

-- a run for which there is no memory reads nothing and writes nothing
no_memory : {State : Type 0} (rules : Rules State) (state : State)
    (left written written' : Option (List ℕ)) (fails failed stalled flushed : Bool)
    (result : Result (Unit {0}) RunFault) → result ≡ Err Memory → Keeps written written'
    → (flushed ≡ true) ⊎ (failed ≡ true) → fails ≡ false → stalled ≡ false
    → IsRunOutcome rules state result
    (log_of_reader left left fails) (log_of_writer written written' failed stalled flushed)
no_memory rules state left written written' fails failed stalled flushed result is same flush reads
    writes =
    rw is record {
      ok = tt;
      flushed = tt;
      works = tt;
      err = record {
        given = [];
        consumed = Consumes-nil _;
        text = [];
        appended = keeps_appends _ _ same;
        front = (output_of rules state [], refl);
      };
      flush = inr flush;
      read = λ h. cc;
      limit = λ h. cc;
      memory = λ h. inr (refl, same);
      memory_works = λ h. (reads, writes);
      read_fails = λ h. cc;
      write_fails = λ h. cc;
      no_thread = λ h. cc;
    }

pub returns-in_default : goal.returns-in_default
returns-in_default g c =
    let outcome = no_memory world_rules script_session _ _ _ _ _ _ _ _
    (ap Err c.out_of_memory.ensures.fault) c.out_of_memory.ensures.bytes
    c.out_of_memory.ensures.flushed c.requires.reader_works
    (c.out_of_memory.ensures.stalls ∙ c.requires.writer_moves) in record {
      outcome = outcome;
      calls = rw (c.out_of_memory.ensures.fault) c.out_of_memory.ensures.flushes;
      readers = run-tells c.scripts_tell_readers.ensures _ _ _ outcome;
    }

pub returns-in_default-new : goal.returns-in_default-new
returns-in_default-new g c =
    let says = c.out_of_memory-in_default-new.ensures in
    let outcome = no_memory world_rules script_session _ _ _ _ _ _ _ _
    (ap Err says.fault) says.bytes says.flushed c.requires.reader_works
    (says.stalls ∙ c.requires.writer_moves) in record {
      outcome = outcome;
      calls = rw (says.fault) says.flushes;
      readers = run-tells c.scripts_tell_readers.ensures _ _ _ outcome;
    }

-- the first session is the script's
pub run_lines-requires-clause-waits : goal.run_lines-requires-clause-waits
run_lines-requires-clause-waits g c =
    rw (
      c.new-session.ensures.desk,
      c.new-session.ensures.rebuilds,
      c.in-Ok-new.ensures.free,
      c.in-Ok.ensures.world,
      c.new.ensures,
    ) c.requires.waits

pub returns : goal.returns
returns g c =
    let outcome = rw (
      c.new-session.ensures.desk,
      c.new-session.ensures.rebuilds,
      c.in-Ok-new.ensures.free,
      c.in-Ok.ensures.world,
      c.new.ensures,
    )
    at c.run_lines.ensures.outcome in record {
      outcome = outcome;
      calls = c.run_lines.ensures.calls;
      readers = run-tells c.scripts_tell_readers.ensures _ _ _ outcome;
    }
