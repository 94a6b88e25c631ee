use Rattle.std.proofs.Common.{◌≡◌, ℕ, List, [], Ok}
use Rattle.std.specs.Io.KnownBytes.{Consumes}
use Rattle.lq_script_lines.specs.Lines.{ended_lines}
use Rattle.lq_script_lines.specs.Progress.{HasCome}
use Rattle.lq_script.specs.Asked.{asked_in}
use Rattle.lq_script.specs.Progress.{Carries, standing_of_seat}
use Rattle.lq_script.proofs.threads.carry_all.Given as goal

abbrev pub invariant-loop : goal.invariant-loop
invariant-loop g l = record {
  next : (goal.iterator-loop g).can_next l.iterator';
  finite : (goal.iterator-loop g).is_finite l.iterator';
  same : l.runner.output.writer.ghost_name ≡ l.fn.runner.output.writer.ghost_name;
  empty : l.runner.output.replies.items ≡ [];
  no_reads : l.runner.slots.items ≡ [];
  given : List ℕ;
  consumed : Consumes (g.R.Source.left l.fn.reader) (g.R.Source.left l.reader) given;
  come : HasCome given l.lines.intake;
  carried : Carries (asked_in (ended_lines given)) (Ok tt)
      (standing_of_seat l.fn.runner.session.seat (g.W.Sink.written l.fn.runner.output.writer.now)
      l.fn.runner.output.replies.items l.fn.runner.slots.items)
      (standing_of_seat l.runner.session.seat (g.W.Sink.written l.runner.output.writer.now)
      l.runner.output.replies.items l.runner.slots.items);
}
