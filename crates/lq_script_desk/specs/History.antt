-- The events of a script and the answers to them: those of the turns of its lines, joined.
use Rattle.std.specs.Prelude.{◌≡◌, ℕ, List, [], ◌∷◌, ◌++◌, length, false, Option, Some, None, is_some, Result, OnOk, OnErr}
use Rattle.std.specs.Result.{result_ok}
use Rattle.std.specs.Io.KnownBytes.{Appends, Consumes}
use Rattle.lq_value.specs.declared.entry.Entry.{Entry}
use Rattle.lq_predicate.specs.Query.{Query}
use Rattle.lq_volume.specs.State.{empty_state}
use Rattle.lq_update.specs.Fold.{Folding, folded, ends_settled, last_change}
use Rattle.lq_update.specs.declared.open_options.OpenOptions.{OpenOptions}
use Rattle.lq_desk_world.specs.World.{World, subscribed_at}
use Rattle.lq_desk_world.specs.declared.event.Event.{Event}
use Rattle.lq_desk_world.specs.Events.{Answer, Opened, answer_to, asked_to_open, next, outcome}
use Rattle.lq_desk_world.specs.Runs.{Run}
use Rattle.lq_desk_world.specs.Turns.{after_events, events_in, ports_of, turn_of, turn_outcome}
use Rattle.lq_desk_world.specs.Headline.{ReadersAreTold, frees, reads_of, updates_in}
use mathlib.Core.List.{IsPrefix}
use Rattle.lq_script_lines.specs.Lines.{Line, long, empty, whole, line_of, lines_of, replies_to}
use Rattle.lq_script_lines.specs.Progress.{state_after_all}
use Rattle.lq_script_lines.specs.Outcome.{ReaderLog, WriterLog}
use Rattle.lq_script_lines.specs.declared.run_fault.RunFault.{RunFault}
use Rattle.lq_script_request.specs.declared.request.Request.{Request}
use Rattle.lq_script_request.specs.declared.request.Request.TheVariants as request
use Rattle.lq_script_request.specs.declared.request.Look.TheVariants as look
use Rattle.lq_script_request.specs.Request.{request_in}
use Rattle.lq_script_desk.specs.Answered.{rebuilt, slot_named}
use Rattle.lq_script_desk.specs.Folds.{fold_at}
use Rattle.lq_script_desk.specs.Reply.{reply_text}
use Rattle.lq_script_desk.specs.Response.{Answers}
use Rattle.lq_script_desk.specs.Script.{out_of, script_session, script_world, world_rules}
use Rattle.lq_script_desk.specs.Session.{Session}

-- ---- the events that lines ask for

-- the request that a line asks, if it asks one
abbrev pub request_of : Line → Option Request
request_of long = None
request_of empty = None
request_of (whole bytes) = result_ok (request_in bytes)

-- the event that a request asks for, if it asks for one
abbrev pub event_of : Option Request → List Event
event_of (Some (request.Event e)) = e ∷ []
event_of other = []

-- the events that lines ask for, in order
abbrev pub events_asked : List (List ℕ) → List Event
events_asked [] = []
events_asked (bytes ∷ lines) = event_of (request_of (line_of bytes)) ++ events_asked lines

-- ---- events and answers

-- the turns of these events, joined: each turn is that of the world after the turns before it
abbrev pub turns_of : World → List Event → List Event
turns_of w [] = []
turns_of w (e ∷ asked) =
    events_in (turn_of (ports_of w) e) ++ turns_of (turn_outcome w e).1 asked

-- the answers to events, one after another
abbrev pub answers_to : World → List Event → List Answer
answers_to w [] = []
answers_to w (e ∷ events) = answer_to w e ∷ answers_to (next w e) events

-- the events of a script's lines, the answers to them, and the world then
abbrev pub events_of : List (List ℕ) → List Event
events_of lines = turns_of script_world (events_asked lines)

abbrev pub answers_of : List (List ℕ) → List Answer
answers_of lines = answers_to script_world (events_of lines)

abbrev pub world_after : List (List ℕ) → World
world_after lines = after_events outcome script_world (events_of lines)

-- what is written for a script's lines, and the session then
abbrev pub replies_of : List (List ℕ) → List ℕ
replies_of lines = replies_to world_rules script_session lines

abbrev pub session_after : List (List ℕ) → Session
session_after lines = state_after_all world_rules script_session lines

-- ---- a line that asks for an event

-- the events that come before this one, which the next line asks for: those of the lines, and those
-- that its turn puts first
abbrev pub events_before : List (List ℕ) → Event → List Event
events_before lines e = events_of lines ++ (turn_of (ports_of (world_after lines)) e).before

-- the answer to that event
abbrev pub answer_after : List (List ℕ) → Event → Answer
answer_after lines e = answer_to (after_events outcome script_world (events_before lines e)) e

-- The reply to a line that asks for an event, and comes after some lines, is the text of the answer
-- that has the event's place among the script's answers.
pub record IsReplied (lines before : List (List ℕ)) (e : Event) : Type 0 where
  pub later : List Event
  pub events : events_of lines ≡ events_before before e ++ e ∷ later
  pub laters : List Answer
  pub answers : answers_of lines
      ≡ answers_to script_world (events_before before e) ++ answer_after before e ∷ laters
  pub place :
      length (events_before before e) ≡ length (answers_to script_world (events_before before e))
  pub reply : IsPrefix
      (replies_of before ++ reply_text (Answers (slot_named e) (answer_after before e)))
      (replies_of lines)

-- ---- the result of a slot

-- no event of these frees the slot
abbrev pub StaysTaken : ℕ → List Event → List Answer → Type 0
StaysTaken slot [] answers = Unit {0}
StaysTaken slot (e ∷ events) [] = Unit {0}
StaysTaken slot (e ∷ events) (a ∷ answers) =
    (frees slot e a ≡ false) × StaysTaken slot events answers

-- A slot's fold after these events and answers: the slot was opened among them and not freed since,
-- and the fold is Fold over the opening's result and the updates that were read since.
pub record IsFoldOf (slot : ℕ) (events : List Event) (answers : List Answer) (f : Folding)
    : Type 0 where
  pub before : List Event
  pub after : List Event
  pub befores : List Answer
  pub afters : List Answer
  pub opener : Event
  pub query : Query
  pub options : OpenOptions
  pub at : ℕ
  pub first : List Entry
  pub asks : asked_to_open opener ≡ Some (query, options)
  pub opening : events ≡ before ++ opener ∷ after
  pub opened : answers ≡ befores ++ Opened slot at first ∷ afters
  pub place : length before ≡ length befores
  pub taken : StaysTaken slot after afters
  pub seq : f.seq ≡ length (updates_in (reads_of slot after afters))
  pub entries : f.entries ≡ folded first (updates_in (reads_of slot after afters))
  pub change : f.change ≡ last_change at (updates_in (reads_of slot after afters))
  pub settled : f.settled ≡ ends_settled (updates_in (reads_of slot after afters))

-- The reply to a line that asks for a slot's result, and comes after some lines, is the text of the
-- slot's fold then. Only a free slot has none.
pub record IsRebuilt (lines before : List (List ℕ)) (slot : ℕ) : Type 0 where
  pub reply : IsPrefix
      (replies_of before ++ reply_text (rebuilt (fold_at (session_after before).folds slot)))
      (replies_of lines)
  -- the slot has a fold just where it is taken
  pub taken : is_some (subscribed_at (world_after before) slot)
      ≡ is_some (fold_at (session_after before).folds slot)
  pub fold : (f : Folding) → fold_at (session_after before).folds slot ≡ Some f
      → IsFoldOf slot (events_of before) (answers_of before) f

-- ---- a whole script

-- What is true of a script's lines: their events and the answers to them are a run of the first
-- world. At every moment of it the readers are told (the headline). Each reply to a line that asks
-- for an event is the text of this event's answer, and each result of a slot is Fold over its
-- opening's result and what was read. Each taken slot has such a result.
pub record IsScript (lines : List (List ℕ)) : Type 0 where
  pub run : Run script_world (events_of lines) (answers_of lines) (world_after lines)
  pub readers : ReadersAreTold (empty_state 1000000000000) (events_of lines) (answers_of lines)
  pub replies : (before after : List (List ℕ)) (bytes : List ℕ) (e : Event)
      → lines ≡ before ++ bytes ∷ after → request_of (line_of bytes) ≡ Some (request.Event e)
      → IsReplied lines before e
  pub results : (before after : List (List ℕ)) (bytes : List ℕ) (slot : ℕ)
      → lines ≡ before ++ bytes ∷ after
      → request_of (line_of bytes) ≡ Some (request.Look (look.Rebuilt slot))
      → IsRebuilt lines before slot
  -- a slot has a fold just where it is taken
  pub kept : (slot : ℕ) → is_some (subscribed_at (world_after lines) slot)
      ≡ is_some (fold_at (session_after lines).folds slot)
  pub folds : (slot : ℕ) (f : Folding) → fold_at (session_after lines).folds slot ≡ Some f
      → IsFoldOf slot (events_of lines) (answers_of lines) f

-- the law of all scripts
abbrev pub ScriptsTellReaders : Type 0
ScriptsTellReaders = (lines : List (List ℕ)) → IsScript lines

-- What a run over a script read and wrote: on Ok the replies to all lines of what it read, and
-- after a fault a prefix of them. The first lines, as many as one likes and all of them too, are a
-- script of which the above is true; so it is true of the lines that were answered.
pub record TellsReaders (result : Result (Unit {0}) RunFault) (r : ReaderLog) (w : WriterLog)
    : Type 0 where
  pub given : List ℕ
  pub text : List ℕ
  pub consumed : Consumes r.left r.left' given
  pub appended : Appends w.written w.written' text
  pub ok : OnOk result (text ≡ out_of given)
  pub err : OnErr result (IsPrefix text (out_of given))
  pub lines : (lines rest : List (List ℕ)) → lines_of given ≡ lines ++ rest → IsScript lines
