-- The answer to a request in a session, and the session after it.
use Rattle.std.specs.Prelude.{◌≡◌, ◌⊎◌, ℕ, List, Option, Some, None, Result, Ok, Err}
use Rattle.lq_value.specs.declared.refusal.Refusal.{Refusal}
use Rattle.lq_value.specs.declared.refusal.Refusal.TheVariants.{NoNode, NoEntry, NoMemory, NotOpen}
use Rattle.lq_value.specs.Refusal.{first_refusal}
use Rattle.lq_volume.specs.State.{State, node_in, record_at}
use Rattle.lq_volume.specs.Lookup.{find_refusals, entry_refusals}
use Rattle.lq_volume.specs.Result.{result_of}
use Rattle.lq_desk_world.specs.declared.event.Event.{Event}
use Rattle.lq_desk_world.specs.declared.event.Event.TheVariants.{Change, Open, OpenBy, Put, Take, HangUp, Notice, Close, Finish}
use Rattle.lq_desk_world.specs.Events.{Answer}
use Rattle.lq_desk_world.specs.Turns.{turn_outcome}
use Rattle.lq_desk_world.specs.World.{World}
use Rattle.lq_update.specs.Fold.{Folding}
use Rattle.lq_script_request.specs.declared.request.Request.{Request}
use Rattle.lq_script_request.specs.declared.request.Request.TheVariants as request
use Rattle.lq_script_request.specs.declared.request.Look.{Look}
use Rattle.lq_script_request.specs.declared.request.Look.TheVariants as look
use Rattle.lq_script_desk.specs.Response.{Response, Answers, Refuses, Found, Listed, Fetched, Rebuilt}
use Rattle.lq_script_desk.specs.Folds.{Folds, fold_at, folds_after}
use Rattle.lq_script_desk.specs.Session.{Session, session_with, volume_of}

-- the response to a look-up: its refusal, or what is found; `missing` where nothing is
abbrev pub found_answer : {T : Type 0} → Option Refusal → Refusal → (T → Response) → Option T
    → Response
found_answer (Some e) missing found there = Refuses e
found_answer None missing found None = Refuses missing
found_answer None missing found (Some x) = found x

-- the response to a look-up of a place in a volume
abbrev pub found_in : State → ℕ → List ℕ → Response
found_in s dir name = found_answer (first_refusal (find_refusals s dir name)) NoEntry Found
    (node_in s.records dir name)

-- the response to a look-up of a node in a volume
abbrev pub entry_answer : State → ℕ → Response
entry_answer s node = found_answer (first_refusal (entry_refusals s node)) NoNode (Listed node)
    (record_at s node)

-- the slot that an event names; 0 for a change and an opening, which name none
abbrev pub slot_named : Event → ℕ
slot_named (Change c) = 0
slot_named (Open q port backlog moved) = 0
slot_named (OpenBy q options) = 0
slot_named (Put slot) = slot
slot_named (Take slot) = slot
slot_named (HangUp slot) = slot
slot_named (Notice slot) = slot
slot_named (Close slot) = slot
slot_named (Finish slot) = slot

-- the answer from a slot's fold
abbrev pub rebuilt : Option Folding → Response
rebuilt None = Refuses NotOpen
rebuilt (Some f) = Rebuilt f.change f.entries f.settled

-- an event's answer and the session after it: the answer updates the folds
abbrev pub answered_event : ℕ → Folds → Answer × World → Response × Session
answered_event slot folds p = (Answers slot p.0, session_with p.1 (folds_after slot p.0 folds))

-- the response to a look
abbrev pub look_response : Session → Look → Response
look_response s (look.Find dir name) = found_in (volume_of s) dir name
look_response s (look.Entry node) = entry_answer (volume_of s) node
look_response s (look.Fetch q) = Fetched (volume_of s).number (result_of q (volume_of s))
look_response s (look.Rebuilt slot) = rebuilt (fold_at s.folds slot)

-- the response to a request, and the session after it: only an event changes it
abbrev pub request_outcome : Session → Request → Response × Session
request_outcome s (request.Event e) = answered_event (slot_named e) s.folds (turn_outcome s.core e)
request_outcome s (request.Look l) = (look_response s l, s)

-- a line without a request is refused, and nothing changes
abbrev pub line_outcome : Session → Result Request Refusal → Response × Session
line_outcome s (Err e) = (Refuses e, s)
line_outcome s (Ok q) = request_outcome s q

-- the response of a call is that to a line with the same request, or memory ran out
abbrev pub Responds : Session → Result Request Refusal → Response → Type 0
Responds s q response = (response ≡ Refuses NoMemory) ⊎ (response ≡ (line_outcome s q).0)
