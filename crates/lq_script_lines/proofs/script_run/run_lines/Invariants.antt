use Rattle.std.proofs.Common.{◌≡◌, ◌-◌, ℕ, List, false}
use Rattle.std.specs.Io.KnownBytes.{Consumes}
use Rattle.lq_script_lines.specs.Calls.{OnlyWrites}
use Rattle.lq_script_lines.specs.Progress.{RunStands}
use Rattle.lq_script_lines.proofs.script_run.run_lines.Given as goal

abbrev pub invariant-loop-out : goal.invariant-loop-out
invariant-loop-out g l = record {
  given : List ℕ;
  consumed : Consumes (g.R.Client.left l.fn.reader) (g.R.Client.left l.reader) given;
  stands : RunStands g.S.Responder.rules (record {
    state = g.S.Responder.state l.fn.responder;
    written = g.W.Sink.written l.fn.writer;
  }) given (g.W.Sink.written l.writer) (g.S.Responder.state l.responder) l.intake l.out.items;
  reader_works : g.R.Client.failed l.reader ≡ false;
  writer_works : g.W.Sink.failed l.writer ≡ false;
  writer_moves : g.W.Sink.stalled l.writer ≡ false;
  calls : OnlyWrites (g.W.Sink.calls l.fn.writer) (g.W.Sink.calls l.writer);
}

abbrev pub decreases-loop-out : goal.decreases-loop-out
decreases-loop-out g l = 1073741824 - l.intake.bytes
