use Rattle.std.proofs.Common.{◌∙◌, arith}
use Rattle.std.proofs.lemmas.List.{take_all}
use Rattle.lq_volume_entries.proofs.Folders.{found-all, found-more}
use Rattle.lq_volume_entries.proofs.records.Records.entries_in.Goals as goal

pub loop-node-preserved : goal.loop-node-preserved
loop-node-preserved c =
    c.in_ok-push_entry_in.ensures.ok
    ∙ found-more c.args.self.now c.args.dir c.args.nodes.now c.loop-node.node-index _ (omega arith)
    c.loop-node.invariant

pub returns-clause-entries : goal.returns-clause-entries
returns-clause-entries c =
    let all = take_all c.loop-node.node-index c.args.nodes.now (omega arith) in
    rw all at c.loop-node.invariant
    ∙ found-all c.args.self.now c.args.dir c.args.nodes.now c.requires.rise c.requires.nodes
    c.requires.all
