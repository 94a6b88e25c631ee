use Rattle.std.proofs.Common.{refl}
use Rattle.lq_server_slots.proofs.ReadLemmas.{entries_folded, marked_result}
use Rattle.lq_server_slots.proofs.reading.Reading.result.Goals as goal

pub returns-clause-folded : goal.returns-clause-folded
returns-clause-folded c =
    rw (c.result.ensures.entries, ← c.self.view_is)
    (entries_folded c.foldings_follow.ensures _ c.self.invariant.0)

pub returns-clause-marked : goal.returns-clause-marked
returns-clause-marked c =
    rw (← c.self.view_is)
    (marked_result c.whole_folds_give_results.ensures c.foldings_follow.ensures _
    c.self.invariant.0 _ c.result.ensures.entries _ refl)
