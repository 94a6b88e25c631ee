use Rattle.std.proofs.Common.{length, ◌∙◌, ap, arith, false, length-drop, true}
use Rattle.lq_script_lines.proofs.CallLemmas.{writes_end, writes_more}
use Rattle.lq_script_lines.proofs.WritingLemmas.{appends_more, rest_is}
use Rattle.lq_script_lines.proofs.writing.write_all.Goals as goal

pub loop-at-preserved : goal.loop-at-preserved
loop-at-preserved g c = record {
  in_range = omega (
    arith,
    c.in-Ok.ensures.bound,
    ap length (rest_is c.args.bytes.now c.loop-at.at),
    length-drop c.loop-at.at c.args.bytes.now,
  );
  taken = appends_more _ _ _ c.args.bytes.now c.loop-at.at c.in-Ok.n c.loop-at.invariant.taken
      c.in-Ok.ensures.bytes;
  works = c.in-Ok.ensures.works ∙ c.loop-at.invariant.works;
  moves = c.in-Ok.ensures.some (omega arith) ∙ c.loop-at.invariant.moves;
  calls = writes_more _ _ _ c.loop-at.invariant.calls c.in-Ok.ensures.call;
}

-- the writer took none of the rest
pub returns-in-Ok-eq0-clause-ends : goal.returns-in-Ok-eq0-clause-ends
returns-in-Ok-eq0-clause-ends g c =
    (true, writes_end _ _ _ c.loop-at.invariant.calls _ c.in-Ok-eq0.ensures.call)

-- the writer failed
pub returns-in-Err-clause-ends : goal.returns-in-Err-clause-ends
returns-in-Err-clause-ends g c =
    (false, writes_end _ _ _ c.loop-at.invariant.calls _ c.in-Err.ensures.call)
