-- The request of each typed call: that of a line with the same fields.
use Rattle.std.specs.Prelude.{ℕ, ℤ, List, Bool, Option, Some, None, Result, Ok, Err, if◌then◌else◌}
use Rattle.std.specs.Str.{is_utf8}
use Rattle.lq_value.specs.declared.refusal.Refusal.{Refusal}
use Rattle.lq_value.specs.declared.refusal.Refusal.TheVariants.{NotUtf8, BadLine, BadQuery}
use Rattle.lq_value.specs.declared.kind.Kind.{Kind}
use Rattle.lq_predicate.specs.Query.{Query}
use Rattle.lq_predicate.specs.Stacked.{Stacked, new_stack}
use Rattle.lq_update.specs.declared.open_options.OpenOptions.{OpenOptions as QueryOptions}
use Rattle.lq_desk_world.specs.declared.event.Event.TheVariants.{OpenBy}
use Rattle.lq_script_request.specs.declared.request.Request.{Request}
use Rattle.lq_script_request.specs.declared.request.Request.TheVariants.{Event, Look}
use Rattle.lq_script_request.specs.declared.request.Look.TheVariants.{Fetch}
use Rattle.lq_script_request.specs.Request.{SetValue, given_text, asks_create, asks_move, asks_set, asks_unset, asks_open, asks_find, asks_fetch, request_for}
use Rattle.lq_embed.specs.Numbers.{kind_numbered}

-- the outcome of a call whose text has to be UTF-8
abbrev pub in_utf8 : {T : Type 0} → List ℕ → Result T Refusal → Result T Refusal
in_utf8 text outcome = if is_utf8 text then outcome else Err NotUtf8

-- a creation, if its kind has a number
abbrev pub creation : ℕ → List ℕ → ℕ → ℤ → Option Kind → Result Request Refusal
creation dir name size time None = Err BadLine
creation dir name size time (Some kind) = request_for (asks_create dir name kind size time)

abbrev pub create_request : ℕ → List ℕ → ℕ → ℕ → ℤ → Result Request Refusal
create_request dir name kind size time =
    in_utf8 name (creation dir name size time (kind_numbered kind))

abbrev pub move_request : ℕ → ℕ → List ℕ → Bool → Result Request Refusal
move_request node dir name clobber = in_utf8 name (request_for (asks_move node dir name clobber))

abbrev pub set_text_request : ℕ → List ℕ → List ℕ → Result Request Refusal
set_text_request node attr text =
    in_utf8 attr (in_utf8 text (request_for (asks_set node attr (given_text text))))

abbrev pub set_request : ℕ → List ℕ → SetValue → Result Request Refusal
set_request node attr value = in_utf8 attr (request_for (asks_set node attr value))

abbrev pub unset_request : ℕ → List ℕ → Result Request Refusal
unset_request node attr = in_utf8 attr (request_for (asks_unset node attr))

abbrev pub open_request : List ℕ → QueryOptions → Result Request Refusal
open_request formula options = in_utf8 formula (request_for (asks_open formula options))

abbrev pub find_request : ℕ → List ℕ → Result Request Refusal
find_request dir name = in_utf8 name (request_for (asks_find dir name))

abbrev pub fetch_request : List ℕ → Result Request Refusal
fetch_request formula = in_utf8 formula (request_for (asks_fetch formula))

-- ---- pushes

-- the request of the predicate that is the stack's only item; else it is refused with the number
-- of pushes
abbrev pub open_pushed : ℕ → QueryOptions → Option Query → Result Request Refusal
open_pushed pushes options None = Err (BadQuery pushes)
open_pushed pushes options (Some q) = Ok (Event (OpenBy q options))

abbrev pub fetch_pushed : ℕ → Option Query → Result Request Refusal
fetch_pushed pushes None = Err (BadQuery pushes)
fetch_pushed pushes (Some q) = Ok (Look (Fetch q))

-- the stack after its only item was taken, if it had one
abbrev pub stack_left : Stacked → Option Query → Stacked
stack_left stack None = stack
stack_left stack (Some q) = new_stack
