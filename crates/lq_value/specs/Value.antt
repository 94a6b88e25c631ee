-- The value that a view shows, and why a text is refused as a value.
use Rattle.std.specs.Prelude.{ℕ, List, length, nat_le, Option, Some, None, if◌then◌else◌}
use Rattle.lq_value.specs.declared.refusal.Refusal.{Refusal}
use Rattle.lq_value.specs.declared.refusal.Refusal.TheVariants.{TooLong}
use Rattle.lq_value.specs.declared.value.Value.{Value}
use Rattle.lq_value.specs.declared.value.Value.TheVariants as value
use Rattle.lq_value.specs.declared.view.View.{View}
use Rattle.lq_value.specs.declared.view.View.TheVariants as view

-- why a text is refused as a value: it has more than 4,096 bytes
abbrev pub text_refusal : List ℕ → Option Refusal
text_refusal bytes = if nat_le (length bytes) 4096 then None else Some TooLong

-- the value that a view shows
abbrev pub shown_by : View → Value
shown_by (view.Text text) = value.Text text.now
shown_by (view.Int32 number) = value.Int32 number
shown_by (view.Int64 number) = value.Int64 number
shown_by (view.UInt32 number) = value.UInt32 number
shown_by (view.UInt64 number) = value.UInt64 number
