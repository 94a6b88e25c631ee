use Rattle.lq_value_pattern.proofs.PieceLemmas.{pieces_of-step}
use Rattle.lq_value_pattern.proofs.WrittenLemmas.{item_shrinks}
use Rattle.lq_value_pattern.proofs.SourceLemmas.{element_shrinks, signs-text}
use Rattle.lq_value_pattern.proofs.laws.sources_are_walked.Goals as goal

pub returns : goal.returns
returns c = record {
  elements = record { step = pieces_of-step _ _ element_shrinks; fewer = element_shrinks };
  items = record { step = pieces_of-step _ _ item_shrinks; fewer = item_shrinks };
  bytes = signs-text;
}
