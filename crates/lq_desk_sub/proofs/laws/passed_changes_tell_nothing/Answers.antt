use Rattle.lq_desk_sub.proofs.PassingLemmas.{step-empty}
use Rattle.lq_desk_sub.proofs.laws.passed_changes_tell_nothing.Goals as goal

pub returns : goal.returns
returns c q flags change unasked over s seq volume lawful = step-empty
    c.changes_pass_over.ensures c.truth_goes_by_names.ensures q flags s change seq volume unasked
    over
