-- A read that joins a batch puts nothing.
use Rattle.std.proofs.Common.{◌∷◌, [], refl, sym, ◌∙◌}
use Rattle.lq_script.specs.Asked.{asked_reads}
use Rattle.lq_script.proofs.ChangeLemmas.{made_same}
use Rattle.lq_script.proofs.ProgressLemmas.{carries_quiet, carries_then, carries_wait, pushed}
use Rattle.lq_script.proofs.runner.Runner.put_read.Goals as goal

pub returns-then-is_err-clause-carried : goal.returns-then-is_err-clause-carried
returns-then-is_err-clause-carried g c =
    carries_quiet (asked_reads (c.args.slot ∷ [])) _ _ (made_same c.args.self.now.session.seat) refl
    refl

pub returns-then-len-lt-MAX_READS-clause-carried :
    goal.returns-then-len-lt-MAX_READS-clause-carried
returns-then-len-lt-MAX_READS-clause-carried g c =
    carries_wait _ _ tt c.args.slot refl refl refl
    (pushed _ _ c.push.result c.push.ensures.items (sym c.is_err.ensures.value ∙ c.if-is_err.false))

pub returns-clause-carried : goal.returns-clause-carried
returns-clause-carried g c =
    carries_then (asked_reads (c.args.slot ∷ [])) [] c.end_batch.result _ _ _ tt
    (carries_wait _ _ tt c.args.slot refl refl refl
    (pushed _ _ c.push.result c.push.ensures.items
    (sym c.is_err.ensures.value ∙ c.if-is_err.false)))
    c.end_batch.ensures.carried
