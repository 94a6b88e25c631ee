use Rattle.lq_embed.proofs.OffsetLemmas.{bound_read}
use Rattle.lq_embed.proofs.laws.bound_formulas_are_read.Goals as goal

pub returns : goal.returns
returns c = bound_read c.one_token_list.ensures
