-- The value of an attribute, without its type.
use Rattle.std.specs.Prelude.{ℕ, ℤ, pos, List}
use Rattle.lq_value.specs.declared.value.Value.{Value}
use Rattle.lq_value.specs.declared.value.Value.TheVariants as values
use Rattle.lq_value.specs.declared.view.View.{View}
use Rattle.lq_value.specs.declared.view.View.TheVariants as view

-- the value of an attribute: a text as its bytes, or a whole number
pub data PlainValue : Type 0 where
  Words : (bytes : List ℕ) → PlainValue
  Number : (value : ℤ) → PlainValue

-- the same for a view
abbrev pub plain_value_of : View → PlainValue
plain_value_of (view.Text text) = Words text.now
plain_value_of (view.Int32 value) = Number value
plain_value_of (view.Int64 value) = Number value
plain_value_of (view.UInt32 value) = Number (pos value)
plain_value_of (view.UInt64 value) = Number (pos value)

-- the same for a value
abbrev pub held_in : Value → PlainValue
held_in (values.Text bytes) = Words bytes
held_in (values.Int32 number) = Number number
held_in (values.Int64 number) = Number number
held_in (values.UInt32 number) = Number (pos number)
held_in (values.UInt64 number) = Number (pos number)
