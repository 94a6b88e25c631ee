use Rattle.std.proofs.Common.{sym, ◌∙◌}
use Rattle.lq_update.proofs.LocationLemmas.{has_node-lookup}
use Rattle.lq_update.proofs.locations.has.Goals as goal

pub returns : goal.returns
returns c = c.contains_key.ensures ∙ sym (has_node-lookup c.args.node c.args.locations.now.entries)
