use Rattle.lq_predicate.proofs.QuerySizeLemmas.{name_made}
use Rattle.lq_predicate.proofs.sizes.SizesBuilder.name.Goals as goal

pub returns : goal.returns
returns c = rw (c.ok_or.ensures.value, c.raw_name_size.ensures) (name_made _ _)
