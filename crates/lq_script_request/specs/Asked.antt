-- A raw request of the code as what it asks for.
use Rattle.lq_value.specs.declared.value.Value.TheVariants as value
use Rattle.lq_value.specs.declared.view.View.{View}
use Rattle.lq_value.specs.declared.view.View.TheVariants as view
use Rattle.lq_script_request.specs.declared.raw_request.RawRequest.{RawRequest}
use Rattle.lq_script_request.specs.declared.raw_request.RawRequest.TheVariants as request
use Rattle.lq_script_request.specs.Request.{RawAsked, SetValue, given_text, given_number, asks_create, asks_remove, asks_move, asks_write, asks_set, asks_unset, asks_open, asks_at, asks_find, asks_entry, asks_fetch, asks_rebuilt}

-- the value of a `set` as it was given
abbrev pub given : View → SetValue
given (view.Text text) = given_text text.now
given (view.Int32 n) = given_number (value.Int32 n)
given (view.Int64 n) = given_number (value.Int64 n)
given (view.UInt32 n) = given_number (value.UInt32 n)
given (view.UInt64 n) = given_number (value.UInt64 n)

-- what a raw request asks for
abbrev pub raw_asked : RawRequest → RawAsked
raw_asked (request.Create dir name kind size time) = asks_create dir name.now kind size time
raw_asked (request.Remove node) = asks_remove node
raw_asked (request.Move node dir name clobber) = asks_move node dir name.now clobber
raw_asked (request.Write node size time) = asks_write node size time
raw_asked (request.Set node attr value) = asks_set node attr.now (given value)
raw_asked (request.Unset node attr) = asks_unset node attr.now
raw_asked (request.Open query options) = asks_open query.now options
raw_asked (request.At slot act) = asks_at slot act
raw_asked (request.Find dir name) = asks_find dir name.now
raw_asked (request.Entry node) = asks_entry node
raw_asked (request.Fetch query) = asks_fetch query.now
raw_asked (request.Rebuilt slot) = asks_rebuilt slot
