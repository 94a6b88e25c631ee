use Rattle.std.proofs.lemmas.List.{get_or-replicate}
use Rattle.lq_value_pattern.proofs.match_masks.match_window_masked.Goals as goal

pub keep_with-requires-clause-off : goal.keep_with-requires-clause-off
keep_with-requires-clause-off c = λ k from lt. get_or-replicate 672 k 0 0 lt
