use Rattle.lq_script.specs.Progress.{AppendsReads}
use Rattle.lq_script.proofs.batch.put_replies.Given as goal

abbrev pub invariant-loop-slot : goal.invariant-loop-slot
invariant-loop-slot g l = AppendsReads l.slot-index l.fn.out.items l.out.items
