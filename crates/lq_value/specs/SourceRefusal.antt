-- Why the source of a pattern is refused.
use Rattle.std.specs.Prelude.{ℕ, List, Option, Some, None, Result, Ok, Err}
use Rattle.lq_value.specs.declared.refusal.Refusal.{Refusal}
use Rattle.lq_value.specs.declared.refusal.Refusal.TheVariants.{BadQuery, NoMemory}
use Rattle.lq_value_pattern.specs.Source.{pattern_of}
use Rattle.lq_value_pattern.specs.declared.element.Element.{Element}
use Rattle.lq_value_pattern.specs.declared.error.SourceError.{SourceError}
use Rattle.lq_value_pattern.specs.declared.error.SourceError.TheVariants as error

-- the refusal for an error of reading a source
abbrev pub refusal_of : SourceError → Refusal
refusal_of (error.Faulty offset) = BadQuery offset
refusal_of error.NoMemory = NoMemory

abbrev pub fault_refusal : Result (List Element) ℕ → Option Refusal
fault_refusal (Ok es) = None
fault_refusal (Err offset) = Some (BadQuery offset)

-- why a source is refused
abbrev pub source_refusal : List ℕ → Option Refusal
source_refusal text = fault_refusal (pattern_of text)
