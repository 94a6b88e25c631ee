-- Reads tell no change.
use Rattle.std.proofs.Common.{refl, subst, List, ℕ, length}
use Rattle.lq_script.specs.Progress.{AppendsReads}
use Rattle.lq_script.proofs.ProgressLemmas.{carries_kept, carries_none, carries_reads}
use Rattle.lq_script.proofs.runner.Runner.end_batch.Goals as goal

pub returns-then-is_empty-clause-carried : goal.returns-then-is_empty-clause-carried
returns-then-is_empty-clause-carried g c = carries_none _ _

pub returns-in-Err-clause-carried : goal.returns-in-Err-clause-carried
returns-in-Err-clause-carried g c =
    carries_kept _ _ c.read-appended.ensures.seat refl c.in-Err.ensures.err

pub returns-in-Ok-clause-carried : goal.returns-in-Ok-clause-carried
returns-in-Ok-clause-carried g c =
    carries_reads c.write_replies.result _ _ c.read-appended.new.out.items
    c.read-appended.ensures.seat c.clear.ensures.items
    (subst (λ (l : List ℕ). AppendsReads (length l)
    c.args.self.now.output.replies.items c.read-appended.new.out.items) c.deref.ensures.value
    c.in-Ok.ensures.ok)
    c.write_replies.ensures.put
