use Rattle.std.proofs.Common.{◌≡◌, ◌≤◌, ◌++◌, List, length, Ok}
use Rattle.lq_script.specs.Asked.{Asked, asked_by_all}
use Rattle.lq_script.specs.Progress.{Carries, standing_of_seat}
use Rattle.lq_script.proofs.runner.Runner.answer_lines.Given as goal

abbrev pub invariant-loop-count : goal.invariant-loop-count
invariant-loop-count g l = record {
  within : length l.rest ≤ length l.lines;
  same : l.self.output.writer.ghost_name ≡ l.fn.self.output.writer.ghost_name;
  asked : List Asked;
  split : asked_by_all l.lines ≡ asked ++ asked_by_all l.rest;
  carried : Carries asked (Ok tt)
      (standing_of_seat l.fn.self.session.seat (g.W.Sink.written l.fn.self.output.writer.now)
      l.fn.self.output.replies.items l.fn.self.slots.items)
      (standing_of_seat l.self.session.seat (g.W.Sink.written l.self.output.writer.now)
      l.self.output.replies.items l.self.slots.items);
}

abbrev pub decreases-loop-count : goal.decreases-loop-count
decreases-loop-count g l = length l.rest
