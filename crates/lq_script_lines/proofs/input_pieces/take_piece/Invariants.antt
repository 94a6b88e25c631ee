use Rattle.std.proofs.Common.{◌≡◌, ◌≤◌, ◌-◌, ◌++◌, ℕ, List, length, take}
use Rattle.lq_script_lines.specs.Calls.{OnlyWrites}
use Rattle.lq_script_lines.specs.Progress.{Began, RunStands}
use Rattle.lq_script_lines.proofs.input_pieces.take_piece.Given as goal

abbrev pub invariant-loop-at : goal.invariant-loop-at
invariant-loop-at g l = record {
  within : l.at ≤ length l.piece;
  stands : (began : Began g.S.Responder.State)
      → (given : List ℕ) → RunStands g.S.Responder.rules began given (g.W.Sink.written l.fn.writer)
      (g.S.Responder.state l.fn.responder) l.fn.intake l.fn.out.items
      → RunStands g.S.Responder.rules began (given ++ take l.at l.piece) (g.W.Sink.written l.writer)
      (g.S.Responder.state l.responder) l.intake l.out.items;
  works : (g.W.Sink.failed l.writer ≡ g.W.Sink.failed l.fn.writer)
      × (g.W.Sink.stalled l.writer ≡ g.W.Sink.stalled l.fn.writer);
  calls : OnlyWrites (g.W.Sink.calls l.fn.writer) (g.W.Sink.calls l.writer);
}

abbrev pub decreases-loop-at : goal.decreases-loop-at
decreases-loop-at g l = length l.piece - l.at
