use Rattle.lq_value_pattern.proofs.MatchingLemmas.{found_at_star}
use Rattle.lq_value_pattern.proofs.matching.find_here.Goals as goal

pub returns-in-Some : goal.returns-in-Some
returns-in-Some c = found_at_star _ _ c.in-Some.field-0.0.now c.in-Some.field-0.1.now _ _
    c.in-Some.ensures.cases.0 c.in_ok-left.ensures
