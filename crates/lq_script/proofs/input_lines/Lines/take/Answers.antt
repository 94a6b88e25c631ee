-- The lines that end in a piece, one after another.
use Rattle.std.proofs.Common.{append_assoc, arith, take, ◌++◌, ◌∙◌, ◌∷◌, [], List, ℕ, ap}
use Rattle.std.proofs.lemmas.List.{take_all}
use Rattle.lq_script_lines.specs.Lines.{line_of, unended_line}
use Rattle.lq_script.proofs.InputLemmas.{hands_line, hands_run, hands_then, passes_at, reply_handed}
use Rattle.lq_script.proofs.input_lines.Lines.take.Goals as goal

pub returns-then-room-eq0-clause-limit : goal.returns-then-room-eq0-clause-limit
returns-then-room-eq0-clause-limit c = λ _ given h.
    let come = c.loop-at.invariant.come given h in
    passes_at c.loop-at.at c.loop-at-test.true come
    (c.room-room.ensures.none c.if-room-eq0.true _ come _) (c.loop-at.invariant.hands given h)

pub loop-at-preserved-then-run-room : goal.loop-at-preserved-then-run-room
loop-at-preserved-then-run-room c =
    let run = c.run_at-run.result.now in
    let front = take c.loop-at.at c.args.piece.now in
    let part = c.run_at-run.ensures.stops c.if-at-piece.true c.if-run-room.true in
    record {
      within = omega (arith, c.if-at-piece.true);
      come = λ given h. rw (← part, ← append_assoc given front (run ++ 10 ∷ []))
          (c.in_ok-end_line.ensures.come _ (c.loop-at.invariant.come given h));
      hands = λ given h. rw (← part, ← append_assoc given front (run ++ 10 ∷ []))
          (hands_then (c.loop-at.invariant.hands given h)
          (hands_line c.lines_grow.ensures.grow c.lines_grow.ensures.end (given ++ front) run
          c.run_at-run.ensures.unbroken
          (c.in_ok-end_line.ensures.ok _ (c.loop-at.invariant.come given h)
          ∙ ap (λ (l : List ℕ). c.loop-at.self.given.items ++ l)
          (reply_handed (line_of (unended_line (given ++ front) ++ run)) 0 (λ state _. state)))));
    }

pub loop-at-preserved : goal.loop-at-preserved
loop-at-preserved c =
    let run = c.run_at-run.result.now in
    let front = take c.loop-at.at c.args.piece.now in
    let part = c.run_at-run.ensures.run in
    record {
      within = c.run_at-run.ensures.bound;
      come = λ given h. rw (← part, ← append_assoc given front run)
          (c.in_ok-keep.ensures.come _ (c.loop-at.invariant.come given h));
      hands = λ given h. rw (← part, ← append_assoc given front run)
          (hands_then (c.loop-at.invariant.hands given h)
          (hands_run c.lines_grow.ensures.grow c.loop-at.self.given.items (given ++ front) run
          c.run_at-run.ensures.unbroken));
    }

pub returns-clause-come : goal.returns-clause-come
returns-clause-come c = λ given h.
    rw (take_all c.loop-at.at c.args.piece.now (omega (arith, c.loop-at-test.false)))
    at (c.loop-at.invariant.come given h)

pub returns-clause-hands : goal.returns-clause-hands
returns-clause-hands c = λ given h.
    rw (take_all c.loop-at.at c.args.piece.now (omega (arith, c.loop-at-test.false)))
    at (c.loop-at.invariant.hands given h)
