-- The pattern that a text writes, if it writes one.
use Rattle.std.specs.Prelude.{ℕ, List, Option}
use Rattle.std.specs.Result.{result_ok}
use Rattle.lq_value.specs.Element.{Element}
use Rattle.lq_value.specs.Source.{pattern_of}

abbrev pub pattern_in : List ℕ → Option (List Element)
pattern_in text = result_ok (pattern_of text)
