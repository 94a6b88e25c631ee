use Rattle.lq_update.proofs.ValueLemmas.{few-touched}
use Rattle.lq_update.proofs.laws.steps_are_few.Goals as goal

pub returns : goal.returns
returns c = few-touched (record {
  trees = c.accepted_changes_keep_trees.ensures;
  stay = c.untouched_nodes_stay.ensures;
  go = c.clobbered_nodes_go.ensures;
})
