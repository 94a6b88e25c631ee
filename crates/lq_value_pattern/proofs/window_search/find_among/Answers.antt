use Rattle.lq_value_pattern.proofs.FlagLemmas.{flags_made}
use Rattle.lq_value_pattern.proofs.window_search.find_among.Goals as goal

pub find_flagged-requires-clause-on : goal.find_flagged-requires-clause-on
find_flagged-requires-clause-on c = flags_made 512 c.args.places c.requires.window
