use Rattle.lq_value_pattern.proofs.MatchingLemmas.{passes_more}
use Rattle.lq_value_pattern.proofs.matching.pass.Goals as goal

pub loop-more-preserved : goal.loop-more-preserved
loop-more-preserved c = passes_more _ _ _ _ _ _ c.loop-more.invariant c.in-More.ensures
