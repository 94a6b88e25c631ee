-- What an embedded session holds.
use Rattle.std.specs.Prelude.{ℕ, List, []}
use Rattle.std.specs.Vec.Iter.{into_iter_items}
use Rattle.lq_value.specs.declared.entry.Entry.{Entry}
use Rattle.lq_value.specs.declared.value.Value.{Value}
use Rattle.lq_volume.specs.State as volume
use Rattle.lq_predicate.specs.Stacked.{Stacked, new_stack}
use Rattle.lq_script_desk.specs.Session.{Session, volume_of}
use Rattle.lq_script_desk.specs.Keeps.{keeps}
use Rattle.lq_script_desk.specs.Script.{session_over}
use Rattle.lq_embed.specs.declared.embedded.Embedded.{Embedded}

-- the session, the entries of a result that weren't given yet, the text that was made last (a
-- line's reply, a path, or a formula with its values), the stack of pushes, the bound values, and
-- the place of the last fault of a formula, a push or a value
pub record SessionState : Type 0 where
  pub session : Session
  pub entries : List Entry
  pub text : List ℕ
  pub pushed : Stacked
  pub bound : List Value
  pub fault : ℕ

abbrev pub holds : Embedded → SessionState
holds e = record {
  session = keeps e.session;
  entries = into_iter_items e.entries;
  text = e.text.items;
  pushed = e.stack;
  bound = e.bound.items;
  fault = e.fault;
}

-- what the first state over a volume holds: its first session, and nothing else
abbrev pub state_over : volume.State → SessionState
state_over start = record {
  session = session_over start;
  entries = [];
  text = [];
  pushed = new_stack;
  bound = [];
  fault = 0;
}

-- the first state of a script: the volume has the root alone
abbrev pub first_state : SessionState
first_state = state_over (volume.empty_state 1000000000000)

-- the volume now
abbrev pub volume_in : SessionState → volume.State
volume_in s = volume_of s.session

-- the state with another part
abbrev pub with_session : SessionState → Session → SessionState
with_session s session = record s { session = session }

abbrev pub with_entries : SessionState → List Entry → SessionState
with_entries s entries = record s { entries = entries }

abbrev pub with_text : SessionState → List ℕ → SessionState
with_text s text = record s { text = text }

abbrev pub with_pushed : SessionState → Stacked → SessionState
with_pushed s stack = record s { pushed = stack }

abbrev pub with_bound : SessionState → List Value → SessionState
with_bound s values = record s { bound = values }

abbrev pub with_fault : SessionState → ℕ → SessionState
with_fault s fault = record s { fault = fault }
