use Rattle.std.proofs.Common.{length, ◌-◌, ◌≡◌, ◌≤◌, take}
use Rattle.std.specs.Io.KnownBytes.{Appends}
use Rattle.lq_script_lines.specs.Calls.{OnlyWrites}
use Rattle.lq_script_lines.proofs.writing.write_all.Given as goal

abbrev pub invariant-loop-at : goal.invariant-loop-at
invariant-loop-at g l = record {
  in_range : l.at ≤ length l.bytes;
  taken :
      Appends (g.W.Sink.written l.initial.writer) (g.W.Sink.written l.writer) (take l.at l.bytes);
  works : g.W.Sink.failed l.writer ≡ g.W.Sink.failed l.initial.writer;
  moves : g.W.Sink.stalled l.writer ≡ g.W.Sink.stalled l.initial.writer;
  calls : OnlyWrites (g.W.Sink.calls l.initial.writer) (g.W.Sink.calls l.writer);
}

abbrev pub decreases-loop-at : goal.decreases-loop-at
decreases-loop-at g l = length l.bytes - l.at
