use Rattle.lq_predicate.proofs.QuerySizeLemmas.{negated_size}
use Rattle.lq_predicate.proofs.sizes.SizesBuilder.negated.Goals as goal

pub returns : goal.returns
returns c = λ q is. negated_size c.args.bangs c.args.inner _ _ q is c.saturating_add.ensures
    c.saturating_add-2.ensures
