use Rattle.lq_volume_entries.proofs.IndexFolders.{has_names-is}
use Rattle.lq_volume_entries.proofs.entries.Entries.has_any.Goals as goal

pub returns : goal.returns
returns c = rw (← c.self.view_is) (has_names-is c.self.inside.places c.self.inside.records
    c.args.dir c.has_names.result c.self.invariant c.has_names.ensures)
