use Rattle.lq_update.proofs.ValueLaws.{values-told}
use Rattle.lq_update.proofs.laws.values_are_told.Goals as goal

pub returns : goal.returns
returns c = values-told
    (record {
      touch = record {
        trees = c.accepted_changes_keep_trees.ensures;
        stay = c.untouched_nodes_stay.ensures;
        go = c.clobbered_nodes_go.ensures;
      };
      found = c.values_are_found.ensures;
    })
    c.changes_are_counted.ensures
