-- The bytes of a text, stored inline or apart.
use Rattle.std.specs.Prelude.{ℕ, List}
use Rattle.std.specs.String.{string_bytes}
use Rattle.lq_value.specs.declared.small_text.Kept.{Kept}
use Rattle.lq_value.specs.declared.small_text.Kept.TheVariants.{Here, Apart}

-- for a text with one owner
abbrev pub small_bytes : Kept → List ℕ
small_bytes (Here text) = text
small_bytes (Apart text) = string_bytes text
