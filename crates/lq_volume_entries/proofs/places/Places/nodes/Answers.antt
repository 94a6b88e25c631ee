use Rattle.std.proofs.lemmas.Result.{IfOk-weaker}
use Rattle.lq_volume_entries.proofs.NameLemmas.{first-among, other-among}
use Rattle.lq_volume_entries.proofs.places.Places.nodes.Goals as goal

pub returns-in-Some-clause-first : goal.returns-in-Some-clause-first
returns-in-Some-clause-first c = IfOk-weaker c.nodes.result _ _
    (λ v is h x there. first-among c.args.self.now c.args.dir h x c.in-Some.names.now _
    c.in-Some.ensures.value is there) c.nodes.ensures.nodes

pub returns-in-Some-clause-others : goal.returns-in-Some-clause-others
returns-in-Some-clause-others c = IfOk-weaker c.nodes.result _ _
    (λ v is n x there. other-among c.args.self.now c.args.dir n x c.in-Some.names.now _
    c.in-Some.ensures.value is there) c.nodes.ensures.nodes
