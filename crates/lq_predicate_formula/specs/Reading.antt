-- The reading of a text as a function: the query with `Reads`, else the offset with `IsFaulty`.
-- Each text has just one, and the law `one_reading` says that this is it. Nothing else is to be
-- known of the function: it is what the machine makes of the tokens.
use Rattle.std.specs.Prelude.{ℕ, List, Result}
use Rattle.lq_predicate_formula.specs.Lexing.{tokens_of}
use Rattle.lq_predicate_formula.specs.MachineReading.{machine_reading}
use Rattle.lq_predicate_formula.specs.Query.{Query}

unfoldable pub reading_of : List ℕ → Result Query ℕ
reading_of text = machine_reading text (tokens_of 0 text)
