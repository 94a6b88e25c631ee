use Rattle.std.proofs.Common.{sym}
use Rattle.lq_volume.proofs.RecordLemmas.{is_taken-node_in}
use Rattle.lq_volume.proofs.volume.Volume.is_taken.Goals as goal

pub returns : goal.returns
returns c = rw (c.is_some.ensures, c.node_in.ensures, ← c.self.view_is)
    (sym (is_taken-node_in c.self.inside.entries c.args.dir c.args.name.now))
