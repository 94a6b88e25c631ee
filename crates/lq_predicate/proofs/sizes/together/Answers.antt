use Rattle.lq_predicate.proofs.QuerySizeLemmas.{parts_either}
use Rattle.lq_predicate.proofs.sizes.together.Goals as goal

pub returns-in-One-2-clause-either : goal.returns-in-One-2-clause-either
returns-in-One-2-clause-either c =
    λ qs h. parts_either c.joined_texts_add.ensures c.args.parts c.in-One.size c.in-One.is qs h
