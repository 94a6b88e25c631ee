-- What a field shows of the data that serde_json reads.
use Rattle.std.specs.Prelude.{◌≡◌, Option, Some, None, true, false, is_none, option_and_then}
use Rattle.serde_json.specs.Data.{Data, null, boolean, number, string, array, object, no_items, no_members, unsigned}
use Rattle.serde_json.specs.Find.{as_bool, as_number, as_str}
use Rattle.serde_json.specs.View.{number_view}
use Rattle.lq_script_request.specs.declared.field.Field.{Field}
use Rattle.lq_script_request.specs.declared.field.Field.TheVariants as field

-- of an array or an object only that it is one
abbrev pub json_outline : Data → Data
json_outline null = null
json_outline (boolean b) = boolean b
json_outline (number n) = number n
json_outline (string s) = string s
json_outline (array ds) = array no_items
json_outline (object ms) = object no_members

-- the data that a field shows, if it is there
abbrev pub data_in : Field → Option Data
data_in field.Absent = None
data_in field.Null = Some null
data_in field.True = Some (boolean true)
data_in field.False = Some (boolean false)
data_in (field.Whole n) = Some (number (unsigned n))
data_in (field.Number n) = Some (number (number_view n))
data_in (field.Text s) = Some (string s.now)
data_in field.Array = Some (array no_items)
data_in field.Object = Some (object no_members)

-- what a field answers is what the data that was found answers; it is absent where none was found
pub record IsFieldOf (field : Field) (found : Option Data) : Type 0 where
  pub absent : is_none (data_in field) ≡ is_none found
  pub text : option_and_then as_str (data_in field) ≡ option_and_then as_str found
  pub truth : option_and_then as_bool (data_in field) ≡ option_and_then as_bool found
  pub number : option_and_then as_number (data_in field) ≡ option_and_then as_number found
