use Rattle.lq_embed.proofs.MeantLemmas.{texts_meant}
use Rattle.lq_embed.proofs.laws.texts_are_meant.Goals as goal

pub returns : goal.returns
returns c = texts_meant c.sources_are_read.ensures
